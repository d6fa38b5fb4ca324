pub mod ClassSums
pub mod ClassFacts
pub mod ClassChoice
pub mod ClassUpper
pub mod ClassSteps
pub mod ClassTheorem
pub mod LeastLaws
pub mod LeastExamples
