pub mod FundingCellLaws
pub mod Examples
pub mod Ways
