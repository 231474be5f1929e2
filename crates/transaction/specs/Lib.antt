pub mod Cells
pub mod Ckb
pub mod Tx
