pub mod ListWriter
pub mod Around
pub mod Parts
