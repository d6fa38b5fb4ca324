pub mod SetCheck
pub mod SetClaim
