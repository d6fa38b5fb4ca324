pub mod Neighbours
pub mod Graph
