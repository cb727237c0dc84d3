mod WorkedLoops
pub mod Own
pub mod Running
pub mod Lookings
pub mod Sendings
pub mod Hearings
pub mod Findings
pub mod Roundings
pub mod GoingRound
pub mod Moving
pub mod Starting
pub mod Going
pub mod Closings
pub mod Acceptings
pub mod MayAsking
pub mod Loopings
mod SendSteps
mod Spelling
mod Asking
mod Causing
mod LoopWritten
mod Prefixing
mod Standing
pub mod Judging
