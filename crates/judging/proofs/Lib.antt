pub mod StageLaws
pub mod HeaderLaws
