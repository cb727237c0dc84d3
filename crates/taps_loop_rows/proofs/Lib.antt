mod Few
mod Shelved
mod Moving
mod Honest
pub mod Told
