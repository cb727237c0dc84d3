pub mod Bytes
pub mod Prefixes
pub mod Laws
pub mod Sights
pub mod Scans
