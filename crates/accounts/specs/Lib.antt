pub mod Added
pub mod Inner
