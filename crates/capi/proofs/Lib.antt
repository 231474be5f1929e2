pub mod CallLaws
pub mod ReplayLaws
pub mod TableLaws
pub mod TableWays
pub mod Ways
