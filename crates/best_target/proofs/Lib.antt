pub mod BestRun
pub mod BestDemand
pub mod BestRefusals
