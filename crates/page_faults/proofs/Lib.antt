pub mod FaultRun
pub mod FaultExamples
