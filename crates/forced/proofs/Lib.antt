pub mod AnswerLaws
pub mod CandidateLaws
pub mod NeutralLaws
pub mod ForcedRun
pub mod ForcedSets
pub mod ForcedLoops
pub mod MarkLaws
