pub mod WorkedScripts
pub mod Exchanges
