pub mod AllLaws
pub mod ChainLaws
pub mod Ways
