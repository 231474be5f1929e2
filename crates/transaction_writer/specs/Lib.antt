pub mod Written
pub mod TxFields
