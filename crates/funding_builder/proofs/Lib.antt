pub mod AssembleLaws
pub mod BuildLaws
pub mod CheckLaws
pub mod PresentLaws
pub mod Ways
