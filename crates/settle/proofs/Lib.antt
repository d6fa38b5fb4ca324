pub mod SettleRun
