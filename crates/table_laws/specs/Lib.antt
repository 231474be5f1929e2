pub mod Answers
pub mod Exclusions
pub mod Holds
pub mod Stands
