pub mod Computing
pub mod KnownExclusions
pub mod LentLaws
