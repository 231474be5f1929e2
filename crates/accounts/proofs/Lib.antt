pub mod CapacityLaws
pub mod TokenLaws
pub mod Ways
