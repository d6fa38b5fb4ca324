pub mod PageDoor
pub mod PageDoorClaim
