pub mod Changes
pub mod Items
pub mod Tally
