pub mod Ways
pub mod WordLaws
