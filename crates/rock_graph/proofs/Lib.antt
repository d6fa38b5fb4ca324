pub mod NeighbourLaws
pub mod GraphLaws
