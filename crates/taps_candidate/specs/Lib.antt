pub mod Gathering
pub mod Ranking
pub mod Plan
pub mod Candidates
pub mod Branches
pub mod Progress
pub mod Expanding
pub mod PlanText
