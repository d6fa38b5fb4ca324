pub mod Sum
pub mod Search
pub mod Table
pub mod Members
