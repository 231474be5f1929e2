pub mod Judge
pub mod Lawful
pub mod Lines
pub mod Records
pub mod Run
pub mod Step
pub mod Surplus
pub mod Told
