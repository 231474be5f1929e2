pub mod Account
pub mod Answers
