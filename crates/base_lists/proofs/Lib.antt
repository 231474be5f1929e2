pub mod DataLaws
pub mod Examples
pub mod OutputLaws
pub mod Ways
pub mod WitnessLaws
