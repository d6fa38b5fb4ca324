pub mod ReadDoor
