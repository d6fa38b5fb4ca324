pub mod Reading
pub mod Writing
pub mod Sound
pub mod Frames
pub mod Tables
