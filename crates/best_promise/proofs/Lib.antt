pub mod BestDemand
pub mod BestDoorExamples
pub mod BestDoorRefusals
pub mod BestReplies
