pub mod Preferences
pub mod StackProperties
pub mod Entries
pub mod Kinds
pub mod Properties
pub mod Selections
pub mod Connections
pub mod Messages
