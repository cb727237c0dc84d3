pub mod Refusals
pub mod Documents
pub mod KnownKeys
pub mod Items
pub mod Readings
