-- Fault 10 on small numbers (request S-3): what the test finds in a job, and in one whose minutes are not given.
--     zero-minutes, widest_minutes    0 minutes and the most that the field holds are taken
--     wide_minutes            one more is not
--     given_minutes           of two tables of one entry each, the job has both
--     missing_minutes         without an entry of minutes it is no job of 0 minutes, and 10 holds of it
--     missing_benches         without an entry of benches it allows none
use Prim.Native.Nat.{ℕ}
use mathlib.Core.Path.{◌≡◌, refl}
use mathlib.Core.Bool.{true, false}
use mathlib.Core.List.{[], ◌∷◌}
use Rattle.fields.specs.Tests.{minutes_fault, job_at, job_table}

pub zero-minutes : (a : ℕ) → minutes_fault (record { minutes = 0; allowed = a }) ≡ false
zero-minutes a = refl

pub widest_minutes : (a : ℕ) → minutes_fault (record { minutes = 1048575; allowed = a }) ≡ false
widest_minutes a = refl

pub wide_minutes : (a : ℕ) → minutes_fault (record { minutes = 1048576; allowed = a }) ≡ true
wide_minutes a = refl

pub given_minutes : (m a : ℕ) → job_at (job_table 1 (m ∷ []) (a ∷ [])) 0 ≡ record { minutes = m; allowed = a }
given_minutes m a = refl

pub missing_minutes : (a : ℕ) → minutes_fault (job_at (job_table 1 [] (a ∷ [])) 0) ≡ true
missing_minutes a = refl

pub missing_benches : (m : ℕ) → job_at (job_table 1 (m ∷ []) []) 0 ≡ record { minutes = m; allowed = 0 }
missing_benches m = refl
