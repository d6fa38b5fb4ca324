pub mod Tables
pub mod Words
