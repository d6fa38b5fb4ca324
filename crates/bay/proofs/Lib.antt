pub mod PrintedLaws
pub mod PrintedExample
