pub mod HeaderDeps
pub mod Orders
