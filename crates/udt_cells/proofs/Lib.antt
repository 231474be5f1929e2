pub mod ChangeLaws
pub mod OutputReads
pub mod PickLaws
pub mod PickTheorems
pub mod Ways
