pub mod Comparison
pub mod CompareArrays
