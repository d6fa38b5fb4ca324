pub mod ClassLaws
pub mod PlaceRun
pub mod LeastRun
