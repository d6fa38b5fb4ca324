pub mod Loads
pub mod BenchSum
