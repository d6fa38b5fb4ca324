pub mod DemandExamples
