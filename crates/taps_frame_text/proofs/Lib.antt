pub mod Lines
pub mod HeardAs
pub mod MessageLines
