pub mod DepLaws
pub mod PutLaws
pub mod LongLaws
pub mod Ways
