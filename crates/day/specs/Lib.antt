pub mod Day
pub mod SmallSheets
