pub mod ChangeLaws
pub mod Examples
pub mod RowLaws
pub mod RowTheorems
pub mod TableLaws
pub mod Ways
