pub mod Appended
pub mod PartsAre
pub mod Steps
