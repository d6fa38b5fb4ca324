pub mod LoadLaws
pub mod BenchSumLaws
