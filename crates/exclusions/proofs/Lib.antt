pub mod CallLaws
pub mod ChangesWays
pub mod EnterLaws
pub mod EntryWays
pub mod MoveLaws
pub mod PutLaws
pub mod SiftLaws
pub mod Ways
