pub mod WriteSteps
