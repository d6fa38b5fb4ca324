pub mod BookingLaws
