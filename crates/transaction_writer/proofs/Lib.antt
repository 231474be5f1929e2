pub mod AnswerLaws
pub mod PutLaws
pub mod RewriteLaws
pub mod Ways
