pub mod Named
pub mod Pending
pub mod Places
pub mod Channels
pub mod Kept
pub mod OpenSockets
pub mod Answered
