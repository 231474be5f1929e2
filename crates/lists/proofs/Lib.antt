pub mod AgreeLaws
pub mod BlockLaws
pub mod EqualLaws
pub mod LoopLaws
pub mod PrefixLaws
pub mod RunLaws
pub mod SpanLaws
pub mod Ways
