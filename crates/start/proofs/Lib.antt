pub mod StartRun
pub mod RocksRun
pub mod StartLaws
