pub mod SetSteps
