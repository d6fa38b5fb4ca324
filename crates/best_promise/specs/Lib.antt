pub mod BestDoor
pub mod BestDoorClaim
