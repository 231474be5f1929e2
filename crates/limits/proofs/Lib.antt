pub mod LimitsLaws
pub mod Ways
