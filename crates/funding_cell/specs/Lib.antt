pub mod FundingCell
