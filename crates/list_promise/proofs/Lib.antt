pub mod ListReplies
pub mod ListDemand
pub mod ListDoorExamples
pub mod ListDoorRefusals
