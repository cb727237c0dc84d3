pub mod PlanFacts
pub mod Plans
pub mod Races
pub mod Clients
pub mod Decodings
