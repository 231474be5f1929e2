pub mod ComparisonLaws
pub mod Ways
