pub mod CaseLaws
pub mod Examples
pub mod ItemLaws
pub mod LineLaws
pub mod ListLaws
pub mod RecordLaws
pub mod Ways
