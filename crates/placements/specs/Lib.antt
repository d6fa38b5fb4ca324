pub mod Classes
pub mod LeastWeight
