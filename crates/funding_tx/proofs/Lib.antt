pub mod Demand3
pub mod VerdictLaws
pub mod Ways
