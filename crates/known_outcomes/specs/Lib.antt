pub mod CaseFiles
pub mod Decided
pub mod Outcomes
pub mod Replays
pub mod Runs
