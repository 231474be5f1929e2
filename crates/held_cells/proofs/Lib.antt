pub mod AddLaws
pub mod CallLaws
pub mod TestLaws
pub mod Ways
