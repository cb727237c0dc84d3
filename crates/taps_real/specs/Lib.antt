pub mod Causes
pub mod Channels
pub mod Tables
pub mod Looks
pub mod OpenSockets
pub mod Stops
