pub mod SettleArrays
