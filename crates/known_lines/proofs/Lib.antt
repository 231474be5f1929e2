pub mod Computing
pub mod KnownFound
pub mod KnownLines
pub mod KnownPrinted
pub mod LinesLaw
