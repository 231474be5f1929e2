pub mod PlaceLaws
pub mod KindLaws
pub mod Ways
