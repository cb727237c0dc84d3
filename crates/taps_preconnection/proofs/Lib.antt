pub mod Listed
pub mod PropertySteps
pub mod HostSteps
pub mod MessageSteps
pub mod TableLimits
pub mod Within
