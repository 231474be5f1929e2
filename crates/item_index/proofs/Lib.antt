pub mod OrderLaws
pub mod WordLaws
pub mod ComesLaws
pub mod MergeLaws
pub mod SortLaws
pub mod FindLaws
pub mod Ways
