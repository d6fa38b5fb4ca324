pub mod CompareSteps
