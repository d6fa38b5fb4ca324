pub mod SetReplies
pub mod SetDemand
pub mod SetDoorExamples
pub mod SetDoorRefusals
