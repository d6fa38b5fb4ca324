pub mod SetDoor
pub mod SetDoorClaim
