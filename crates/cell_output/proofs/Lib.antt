pub mod CellOutputLaws
pub mod Ways
