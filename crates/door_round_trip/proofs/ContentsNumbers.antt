-- Laws of the numbers that reading puts into its table, and of those that writing takes from its tables.
-- Of a table of contents:
--     Fit-append, Fit-head, Fit-jobs      numbers of at most 8 bytes: two lists one after the other, and the numbers of
--                         a sound head and of jobs
--     job_numbers_lem     the two numbers of job j
-- Of a table that is written:
--     entry_anywhere      number i of a table is entry i, also past its end, where both are 0
--     given_entry         minutes that fit their field are those of the entry
use Prim.Native.Nat.{ℕ, zero, suc, ◌*◌, ◌^◌, ◌<◌}
use native.Mathlib.Omega.{arith}
use mathlib.Core.Path.{◌≡◌, refl, sym, ◌∙◌}
use mathlib.Core.Logic.{inl, inr}
use mathlib.Core.Bool.{◌&&◌}
use mathlib.Core.List.{List, [], ◌∷◌, ◌++◌}
use lib.ListN.{length, get_or, get_or-eq_default}
use lib.Dec.{eqb}
use Rattle.bools.proofs.BoolLaws.{split}
use Rattle.bools.proofs.OrderLaws.{lt-or-le}
use Rattle.sums.proofs.TableLaws.{get_or-table}
use Rattle.bits.proofs.LittleLaws.{little-over}
use Rattle.fields.specs.declared.sheet.Head.{Head}
use Rattle.fields.specs.declared.sheet.Job.{Job}
use Rattle.fields.specs.Tests.{no_minutes, job_at}
use Rattle.frame.specs.Sound.{SoundHead}
use Rattle.tables.specs.Tables.{entries_of, entry_of, numbers_of, lacks_bytes, given_at, given_numbers}
use Rattle.tables.proofs.TableSteps.{length-numbers_of, entry_at}
use Rattle.tables.proofs.EntryLaws.{Fit}
use Rattle.door.specs.Door.{minutes_in}
use Rattle.read_door.specs.ReadDoor.{head_numbers, job_numbers}

-- ── the numbers of a table of contents ──

pub Fit-append : (xs ys : List ℕ) → Fit xs → Fit ys → Fit (xs ++ ys)
Fit-append [] ys first second i l = second i l
Fit-append (x ∷ xs) ys first second zero l = first 0 (omega arith)
Fit-append (x ∷ xs) ys first second (suc i) l =
    Fit-append xs ys (λ k h. first (suc k) (omega arith)) second i (omega arith)

pub Fit-head : (h : Head) → SoundHead h → Fit (head_numbers h)
Fit-head h s zero l = omega (arith, s.at_most_64_benches)
Fit-head h s (suc zero) l = omega (arith, s.p_fits)
Fit-head h s (suc (suc zero)) l = omega (arith, s.q_fits)
Fit-head h s (suc (suc (suc zero))) l = omega (arith, s.target_fits)
Fit-head h s (suc (suc (suc (suc i)))) l = absurd (omega arith)

pub Fit-jobs : (js : List Job)
    → ((i : ℕ) → i < length js → ((job_at js i).minutes < 2 ^ 64) × ((job_at js i).allowed < 2 ^ 64)) → Fit (job_numbers js)
unfolding job_numbers
Fit-jobs [] narrow i l = absurd (omega arith)
Fit-jobs (j ∷ js) narrow zero l = (narrow 0 (omega arith)).0
Fit-jobs (j ∷ js) narrow (suc zero) l = (narrow 0 (omega arith)).1
Fit-jobs (j ∷ js) narrow (suc (suc i)) l = Fit-jobs js (λ k h. narrow (suc k) (omega arith)) i (omega arith)

pub job_numbers_lem : (js : List Job) (j : ℕ) → j < length js
    → (get_or (job_numbers js) (2 * j) 0 ≡ (job_at js j).minutes)
    × (get_or (job_numbers js) (suc (2 * j)) 0 ≡ (job_at js j).allowed)
unfolding job_numbers
job_numbers_lem [] j l = absurd (omega arith)
job_numbers_lem (k ∷ js) zero l = (refl, refl)
job_numbers_lem (k ∷ js) (suc j) l =
    let next : 2 * suc j ≡ suc (suc (2 * j)) = omega arith in
    let (m, a) = job_numbers_lem js j (omega arith) in
    (rw next m, rw next a)

-- ── a table that is written ──

pub entry_anywhere : (t : List ℕ) (i : ℕ) → get_or (numbers_of t) i 0 ≡ entry_of t i
entry_anywhere t i = elim (lt-or-le i (entries_of t)) [
  | inl l ↦ entry_at t i l
  | inr l ↦
      get_or-eq_default (numbers_of t) 0 (omega (arith, length-numbers_of t))
      ∙ unfold entries_of entry_of in sym (little-over t (8 * i) 8 (omega arith))
]

pub given_entry : (t : List ℕ) (j : ℕ) → j < entries_of t → get_or (minutes_in t) j no_minutes < 2 ^ 20
    → get_or (minutes_in t) j no_minutes ≡ entry_of t j
unfolding given_numbers given_at
given_entry t j l fits =
    let given = get_or-table (entries_of t) (given_at t no_minutes) j no_minutes l in
    given
    ∙ elim (split (lacks_bytes t j && eqb (entry_of t j) 0)) [
      | inl p ↦ absurd (let none : given_at t no_minutes j ≡ no_minutes = rw p in omega (arith, given, fits))
      | inr p ↦ rw p
    ]
