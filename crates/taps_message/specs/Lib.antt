pub mod Expiry
pub mod Queues
pub mod Parts
pub mod Orders
