pub mod WaitLaws
pub mod ActivateRun
pub mod ActiveSets
