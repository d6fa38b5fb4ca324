pub mod PageRun
pub mod FaultFacts
pub mod PageLaws
pub mod PageFront
pub mod SingleSets
pub mod PageExamples
