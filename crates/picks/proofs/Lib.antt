pub mod TakeLaws
pub mod TakenLaws
pub mod Ways
