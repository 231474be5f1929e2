pub mod ListLaws
pub mod Ways
