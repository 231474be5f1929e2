pub mod PlaceLaws
pub mod StandsLaws
pub mod TransactionLaws
pub mod Ways
