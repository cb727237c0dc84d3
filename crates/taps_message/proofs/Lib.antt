pub mod Parting
pub mod Ordering
