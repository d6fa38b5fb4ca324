pub mod BoolLaws
pub mod OrderLaws
