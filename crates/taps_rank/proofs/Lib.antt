pub mod Ranked
pub mod Differing
pub mod Turned
