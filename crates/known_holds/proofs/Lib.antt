pub mod Computing
pub mod KnownHolds
pub mod KnownLentHolds
pub mod LongLaws
pub mod ZerosLaws
