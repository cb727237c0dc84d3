pub mod Nine
pub mod Written
pub mod SystemRuns
