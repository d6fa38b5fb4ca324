pub mod RockArrays
pub mod BoardArrays
pub mod BalanceNumbers
pub mod SpreadArrays
pub mod Shown
pub mod DayArrays
