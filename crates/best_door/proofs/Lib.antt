pub mod BestSteps
