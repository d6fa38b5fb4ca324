pub mod PrintedExample
pub mod PrintedLaws
