pub mod Bits
pub mod Layout
pub mod Little
