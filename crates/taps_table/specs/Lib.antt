pub mod Refusals
pub mod Documents
pub mod Places
pub mod Values
pub mod Words
pub mod Keys
