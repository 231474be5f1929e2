pub mod FirstLaws
pub mod MarkLaws
pub mod PickLaws
pub mod Ways
