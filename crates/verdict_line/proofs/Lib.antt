pub mod DigitLaws
pub mod Examples
pub mod LineLaws
pub mod Ways
