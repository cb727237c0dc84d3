pub mod FailingCalls
pub mod SameSockets
pub mod FailingNet
pub mod Goings
