pub mod EntryLaws
pub mod FirstSteps
pub mod FrontSteps
pub mod LentSteps
pub mod NumberSteps
pub mod TableSteps
pub mod WordLaws
