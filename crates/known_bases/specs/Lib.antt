pub mod Bases
pub mod Parts
pub mod Picks
