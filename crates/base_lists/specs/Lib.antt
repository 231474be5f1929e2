pub mod BaseLists
pub mod Parts
