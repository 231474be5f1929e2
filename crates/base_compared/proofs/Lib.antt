pub mod Claims
pub mod CompareLaws
pub mod Compared
