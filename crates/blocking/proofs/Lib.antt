pub mod Claim
pub mod ClaimExamples
pub mod ClaimRefusals
pub mod BookedClaim
pub mod CheckOnlyClaim
