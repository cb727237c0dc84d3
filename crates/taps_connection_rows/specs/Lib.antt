pub mod Meetings
pub mod Long
pub mod Usable
