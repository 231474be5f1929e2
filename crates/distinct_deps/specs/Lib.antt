pub mod Chosen
pub mod Listed
pub mod Indexed
