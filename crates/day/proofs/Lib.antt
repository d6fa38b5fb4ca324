pub mod CheckOnly
pub mod LoadLaws
pub mod DayExamples
