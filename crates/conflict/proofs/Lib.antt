pub mod ConflictRun
pub mod ConflictSets
pub mod ConflictLoops
