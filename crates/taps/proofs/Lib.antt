pub mod Nine
pub mod Sinks
pub mod Systems
