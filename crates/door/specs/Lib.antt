pub mod Door
pub mod DoorClaim
pub mod PlanDoor
