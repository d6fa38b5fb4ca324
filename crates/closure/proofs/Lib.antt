pub mod IterateLaws
pub mod ClosureLaws
