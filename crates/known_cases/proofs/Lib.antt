pub mod Computing
pub mod Largest
