pub mod GatherLaws
pub mod RecordLaws
pub mod Ways
