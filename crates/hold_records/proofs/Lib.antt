pub mod LimitLaws
pub mod ListLaws
pub mod LoopLaws
pub mod Ways
pub mod WriteLaws
