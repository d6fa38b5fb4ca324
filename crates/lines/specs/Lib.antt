pub mod BestLines
pub mod Buffer
pub mod Lines
