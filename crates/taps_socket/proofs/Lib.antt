pub mod WorkedRaces
pub mod WorkedCalls
pub mod Lists
pub mod NamedSockets
pub mod Added
pub mod Unnamed
pub mod Traffic
