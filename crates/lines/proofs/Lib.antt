pub mod BestSteps
pub mod BufferLaws
pub mod DigitLaws
pub mod LineExamples
pub mod LineSteps
pub mod TextSize
