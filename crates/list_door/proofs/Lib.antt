pub mod ListSteps
