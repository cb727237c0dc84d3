pub mod Prefixes
pub mod Layers
pub mod Sights
pub mod Scans
