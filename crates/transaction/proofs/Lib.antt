pub mod FieldLaws
pub mod ListLaws
pub mod ReadLaws
pub mod TableLaws
pub mod Tests
pub mod Ways
pub mod WordLaws
