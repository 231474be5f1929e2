pub mod Holds
pub mod LentHolds
