pub mod GroupRules
pub mod Opening
pub mod Founding
pub mod Telling
pub mod Holding
pub mod OwnSockets
