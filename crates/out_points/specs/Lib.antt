pub mod OutPoints
pub mod Tables
