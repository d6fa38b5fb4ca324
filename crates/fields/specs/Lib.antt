pub mod Numbers
pub mod Contents
pub mod Format
pub mod Tests
