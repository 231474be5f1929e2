pub mod Calls
pub mod Entries
pub mod Exclusions
pub mod Inner
