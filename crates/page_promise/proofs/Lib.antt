pub mod PageReplies
pub mod PageDemand
pub mod PageDoorExamples
pub mod PageDoorRefusals
