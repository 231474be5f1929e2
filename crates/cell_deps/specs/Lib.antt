pub mod CellDeps
pub mod DepLists
