pub mod Holds
pub mod Inner
