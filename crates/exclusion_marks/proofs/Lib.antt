pub mod ApplyLaws
pub mod CallLaws
pub mod MarkLaws
pub mod Ways
