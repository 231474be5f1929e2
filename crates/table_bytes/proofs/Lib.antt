pub mod AgainLaws
pub mod LentLaws
pub mod LoopLaws
pub mod PlaceLaws
pub mod TableLaws
pub mod Ways
