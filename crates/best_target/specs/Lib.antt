pub mod BestClaim
