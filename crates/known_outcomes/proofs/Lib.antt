pub mod Computing
pub mod KnownDecided
pub mod KnownOutcomes
pub mod KnownReplay
pub mod KnownRuns
