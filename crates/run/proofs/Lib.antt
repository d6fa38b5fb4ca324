pub mod HeldLaws
pub mod MoveRun
pub mod PlaceLaws
pub mod StartState
pub mod StateRun
pub mod TableRun
