pub mod FinishRun
pub mod DayRun
