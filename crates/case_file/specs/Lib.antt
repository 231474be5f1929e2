pub mod CaseFile
pub mod Walk
