pub mod FrameTests
pub mod Steps
