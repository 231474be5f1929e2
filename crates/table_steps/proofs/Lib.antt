pub mod LentSteps
pub mod MapSteps
pub mod StepLaws
pub mod Ways
