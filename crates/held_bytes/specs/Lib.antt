pub mod Calls
pub mod HeldBytes
