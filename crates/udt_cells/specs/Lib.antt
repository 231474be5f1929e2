pub mod Change
pub mod Pick
