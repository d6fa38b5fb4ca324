pub mod ListDoor
pub mod ListDoorClaim
