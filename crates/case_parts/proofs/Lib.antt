pub mod Computing
pub mod Rows
