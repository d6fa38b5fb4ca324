pub mod BlankRun
pub mod ExploreSets
pub mod OpenRun
pub mod ReachRun
pub mod RoundRun
pub mod RoundSets
