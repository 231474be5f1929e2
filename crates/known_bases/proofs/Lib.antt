pub mod Computing
pub mod KnownBases
pub mod KnownParts
pub mod KnownPicks
pub mod WidthLaws
