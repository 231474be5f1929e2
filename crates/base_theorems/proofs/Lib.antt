pub mod Base
pub mod BeginLaws
pub mod ChangeLaws
pub mod Claims
pub mod FormLaws
pub mod PackedLaws
