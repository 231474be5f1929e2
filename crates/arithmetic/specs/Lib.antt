pub mod Amount
pub mod Bits
pub mod LittleEndian
