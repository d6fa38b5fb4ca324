pub mod CheckRun
pub mod SetLaws
pub mod SetExamples
