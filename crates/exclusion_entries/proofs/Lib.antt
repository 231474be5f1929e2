pub mod EntryLaws
pub mod LentLaws
pub mod MapLaws
pub mod StayLaws
pub mod SurveyLaws
pub mod Ways
