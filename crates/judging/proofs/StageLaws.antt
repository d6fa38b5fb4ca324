-- What is known of the stage in the arm of a `let .. else` that is taken for the other variants.
--     misplaced-unless_start       another stage than Start: a head is misplaced
--     misplaced-unless_open        another stage than Open: a job, an end and a booking are misplaced
use Prim.Native.Nat.{ℕ}
use mathlib.Core.Path.{◌≡◌, refl}
use mathlib.Core.Logic.{◌≢◌}
use mathlib.Core.Bool.{true}
use Rattle.judging.specs.declared.judge.Stage.{Stage}
use Rattle.judging.specs.declared.judge.Stage.TheVariants.{Start, Open, Closed}
use Rattle.fields.specs.Format.{head_kind, job_kind, end_kind, booking_kind}
use Rattle.judging.specs.FrameTests.{misplaced}

pub misplaced-unless_start : (g : Stage) (n : ℕ) → g ≢ Start → misplaced g n head_kind ≡ true
misplaced-unless_start Start n k = absurd (k refl)
misplaced-unless_start Open n k = refl
misplaced-unless_start Closed n k = refl

pub misplaced-unless_open : (g : Stage) (n : ℕ) → g ≢ Open
    → (misplaced g n job_kind ≡ true) × (misplaced g n end_kind ≡ true) × (misplaced g n booking_kind ≡ true)
misplaced-unless_open Start n k = (refl, refl, refl)
misplaced-unless_open Open n k = absurd (k refl)
misplaced-unless_open Closed n k = (refl, refl, refl)
