pub mod Examples
pub mod InputLaws
pub mod Ways
