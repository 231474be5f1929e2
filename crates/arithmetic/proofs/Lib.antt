pub mod AmountLaws
pub mod BitLaws
pub mod Examples
pub mod LittleEndianLaws
pub mod Ways
