pub mod Order
pub mod Index
pub mod Keys
