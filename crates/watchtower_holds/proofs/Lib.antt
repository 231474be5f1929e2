pub mod CallLaws
pub mod HintLaws
pub mod MarkLaws
pub mod RenewLaws
pub mod TestLaws
pub mod Ways
