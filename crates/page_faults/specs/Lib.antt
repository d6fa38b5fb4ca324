pub mod PageFaults
