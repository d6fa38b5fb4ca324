pub mod TestLaws
pub mod HyperEdges
