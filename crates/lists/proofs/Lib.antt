pub mod ListRun
pub mod ListLaws
