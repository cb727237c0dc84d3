pub mod Entries
pub mod LogLines
pub mod Reading
