pub mod SetRun
pub mod GatherLaws
pub mod SetLaws
pub mod BitLaws
