pub mod HyperEdgeCheck
