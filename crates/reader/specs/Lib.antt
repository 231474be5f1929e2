pub mod Places
pub mod Readers
