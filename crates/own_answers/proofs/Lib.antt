pub mod OwnPlans
pub mod OwnPlansDoor
pub mod OwnSets
