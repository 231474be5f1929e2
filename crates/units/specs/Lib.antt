pub mod Fee
pub mod Units
