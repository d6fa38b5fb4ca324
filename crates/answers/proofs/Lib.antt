pub mod SetLaws
pub mod FilledLaws
pub mod CaseExamples
