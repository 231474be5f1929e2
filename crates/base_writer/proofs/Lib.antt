pub mod ListLaws
pub mod PutLaws
pub mod AnswerLaws
pub mod Ways
