pub mod Base
pub mod Steps
pub mod Lent
