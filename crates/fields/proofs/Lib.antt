pub mod NumberLaws
pub mod FormatLaws
pub mod HyperEdgeLaws
pub mod TestExamples
