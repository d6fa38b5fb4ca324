-- What the argument for the answers takes from the theorems about the run.
--     SoundState d s              the rocks left are rocks of the day, and every other job lies on one of its benches
--     PeeledPlaced d s            every placement has each peeled rock where the state has it
--     CrowdedUnplaceable d        with a component of more rocks than benches there is no placement
--     Settled b before after      the rocks neutral before are directed too, no bench receiving two of them; the others
--                                 keep their directions
use Rattle.std.specs.Prelude.{ℕ, suc, ◌<◌, ◌≡◌, ◌⊎◌, true, false, get_or}
use Rattle.day.specs.Day.{Day}
use Rattle.algorithm.specs.Rocks.{rock}
use Rattle.demand.specs.Demand.{Placement}
use Rattle.algorithm.specs.Board.{Board, Directions, touches, neutral, towards}
use Rattle.algorithm.specs.Start.{State, crowded}

-- ── the states of the run ──

pub record SoundState (d : Day) (s : State) : Type 0 where
  pub left_rock : (j : ℕ) → j < d.jobs → get_or s.left j false ≡ true → rock d j ≡ true
  pub place_allowed : (j : ℕ) → j < d.jobs → get_or s.left j false ≡ false
      → d.allows j (get_or s.place j 0) ≡ true

abbrev pub PeeledPlaced : Day → State → Type 0
PeeledPlaced d s = (place : ℕ → ℕ) → Placement d place
    → (j : ℕ) → j < d.jobs → rock d j ≡ true → get_or s.left j false ≡ false → place j ≡ get_or s.place j 0

abbrev pub CrowdedUnplaceable : Day → Type 0
CrowdedUnplaceable d = (v : ℕ) → v < d.benches → crowded d v ≡ true → (place : ℕ → ℕ) → Placement d place → ⊥

-- ── the rule for neutral rocks ──

pub record Settled (b : Board) (before after : Directions) : Type 0 where
  pub directed : (j : ℕ) → j < b.jobs → b.rock j ≡ true
      → (get_or after j 0 ≡ suc (b.low j)) ⊎ (get_or after j 0 ≡ suc (b.high j))
  pub kept : (j : ℕ) → j < b.jobs → neutral before j ≡ false → get_or after j 0 ≡ get_or before j 0
  pub one_each : (e f v : ℕ) → e < b.jobs → f < b.jobs → touches b e v ≡ true → touches b f v ≡ true
      → neutral before e ≡ true → neutral before f ≡ true
      → towards after e v ≡ true → towards after f v ≡ true → e ≡ f
