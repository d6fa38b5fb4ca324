-- What the rounds of an exploration take from FORCED ORIENTATIONS.
--     ForcedLaws b        the call directs rocks by forced orientations until none is forced (call);
--                         a bench that the first call overloads is so by its own load and one rock (first_overloads);
--                         a call after a fake orientation overloads no bench (fake_keeps)
use Prim.Native.Nat.{ℕ, ◌+◌, ◌≤◌, ◌<◌}
use mathlib.Core.Path.{◌≡◌}
use mathlib.Core.Logic.{◌⊎◌}
use mathlib.Core.Bool.{true}
use lib.ListN.{replicate}
use Rattle.algorithm.specs.Board.{Board, Directions, touches, neutral, towards, load}
use Rattle.algorithm.specs.Forced.{direct, forced_orientations}
use Rattle.algorithm.specs.Properties.{Pointed, ForcedSteps, Stable}

pub record ForcedLaws (b : Board) : Type 0 where
  pub call : (dir : Directions) → Pointed b dir
      → Pointed b (forced_orientations b dir) × ForcedSteps b dir (forced_orientations b dir) × Stable b (forced_orientations b dir)
  pub first_overloads : (v : ℕ) → v < b.benches → b.bound < load b (forced_orientations b (replicate b.jobs 0)) v
      → (b.bound < b.own v)
      ⊎ ((e : ℕ) × (e < b.jobs) × (touches b e v ≡ true) × (towards (forced_orientations b (replicate b.jobs 0)) e v ≡ true) × (b.bound < b.own v + b.weight e))
  pub fake_keeps : (dir : Directions) → Pointed b dir → Stable b dir
      → (v j : ℕ) → v < b.benches → j < b.jobs → touches b j v ≡ true → neutral dir j ≡ true
      → (u : ℕ) → u < b.benches → load b dir u ≤ b.bound → load b (forced_orientations b (direct b dir v j)) u ≤ b.bound
