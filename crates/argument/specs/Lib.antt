pub mod Orientation
pub mod Exploration
pub mod RunFacts
pub mod Answers
pub mod Best
