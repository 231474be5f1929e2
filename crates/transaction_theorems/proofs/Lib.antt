pub mod Claims
pub mod DecodedParts
pub mod Examples
pub mod FieldsDecoded
pub mod ReadExactly
pub mod WrittenReads
