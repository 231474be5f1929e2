pub mod Kinds
pub mod Indexed
pub mod Picks
