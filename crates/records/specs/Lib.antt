pub mod Inner
pub mod Resolved
