pub mod Answers
pub mod Buffers
