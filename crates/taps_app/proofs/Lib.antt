pub mod Framed
pub mod FileMeanings
pub mod SummingUp
pub mod Table
pub mod Corollaries
pub mod Generating
pub mod Promised
