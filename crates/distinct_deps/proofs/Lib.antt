pub mod SortedLaws
pub mod ChooseLaws
pub mod DistinctLaws
pub mod Ways
