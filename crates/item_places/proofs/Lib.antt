pub mod AtLaws
pub mod PlacingLaws
pub mod Ways
