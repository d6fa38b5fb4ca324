pub mod ArrayLaws
pub mod FilledLaws
pub mod NumberLaws
