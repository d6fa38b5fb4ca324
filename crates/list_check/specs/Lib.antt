pub mod ListCheck
pub mod ListClaim
