pub mod CountLaws
pub mod Examples
pub mod Ways
