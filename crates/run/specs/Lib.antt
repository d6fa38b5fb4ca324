pub mod Held
pub mod TableArrays
