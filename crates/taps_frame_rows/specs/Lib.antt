pub mod TestFramers
