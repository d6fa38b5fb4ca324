pub mod PlacesLaws
pub mod ListLaws
pub mod CheckRun
pub mod ListExamples
pub mod ListRefusals
