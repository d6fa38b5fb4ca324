pub mod UnionLaws
pub mod BlockingUnions
pub mod UnionExamples
