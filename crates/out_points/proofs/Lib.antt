pub mod AgainLaws
pub mod EqualLaws
pub mod ListLaws
pub mod PointLaws
pub mod Ways
