pub mod PageCheck
pub mod PageClaim
