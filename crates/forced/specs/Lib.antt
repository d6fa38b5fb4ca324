pub mod SetArrays
pub mod CandidateArrays
