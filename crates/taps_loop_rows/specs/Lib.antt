pub mod Heard
pub mod Joins
