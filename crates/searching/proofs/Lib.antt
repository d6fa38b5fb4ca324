pub mod SearchRun
