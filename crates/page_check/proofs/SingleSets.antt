-- A page and the check of each of its sets (set_check).
--     each_passes       the sets of a page that passes pass by themselves
--     passing_sets      a page of sets that pass by themselves, no two of which share a bench, passes
--     page_of_one       so does the page of one set that passes
use Prim.Native.Nat.{ℕ, zero, suc, ◌<◌}
use mathlib.Core.Path.{◌≡◌, refl, sym, ap, ◌∙◌}
use mathlib.Core.Bool.{Bool, true, false, cond}
use mathlib.Core.List.{List, [], ◌∷◌}
use native.Mathlib.Omega.{arith}
use denote.Enum.Declared.{tag_of}
use lib.Dec.{eqb, ltb}
use lib.ListN.{length}
use Rattle.bits.specs.Bits.{is_set}
use Rattle.sums.proofs.CountLaws.{count-pos_elim}
use Rattle.fields.specs.declared.fault.Fault.{Fault}
use Rattle.fields.specs.Contents.{Contents}
use Rattle.frame.specs.Reading.{accepted, read_sheet}
use Rattle.frame.proofs.AcceptedLaws.{accepted_sound}
use Rattle.day.specs.Day.{Day, day_of, long_job}
use Rattle.demand.specs.Demand.{EachFits}
use Rattle.unions.specs.Unions.{NoneShared}
use Rattle.answers.specs.contracts.check.SetAnswer.{the_type}
use Rattle.answers.specs.declared.answer.LongAnswer.{LongAnswer}
use Rattle.answers.specs.declared.check.SetAnswer.TheVariants.{Passed as SetPassed, Long as SetLong}
use Rattle.answers.specs.declared.check.SetAnswer.TheVariants.{NotPassed as SetNotPassed, Fault as SetFaulty}
use Rattle.answers.specs.declared.check.PageAnswer.TheVariants.{Passed}
use Rattle.algorithm.proofs.SheetDay.{accepted_day, none_long, sound_day}
use Rattle.placements.specs.LeastWeight.{blocks}
use Rattle.placements.proofs.LeastLaws.{blocks-blocking}
use Rattle.set_check.specs.SetCheck.{foreign_in, check_set}
use Rattle.set_check.specs.SetClaim.{Judged}
use Rattle.set_check.proofs.CheckRun.{head_only}
use Rattle.set_check.proofs.SetLaws.{answer_is, judged_passed}
use Rattle.page_faults.specs.PageFaults.{set_at}
use Rattle.page_check.specs.PageCheck.{check_page}
use Rattle.page_check.specs.PageClaim.{on_page}
use Rattle.page_check.proofs.PageLaws.{page_claim}

passed_by : (a b l k : Bool) (f g : Fault) (j : LongAnswer)
    → cond a (SetFaulty f) (cond b (SetFaulty g) (cond l (SetLong j) (cond k SetPassed SetNotPassed))) ≡ SetPassed
    → (b ≡ false) × (l ≡ false) × (k ≡ true)
passed_by true b l k f g j e = let z : ◌≡◌ {A = ℕ} 3 0 = ap (tag_of the_type) e in absurd (omega arith)
passed_by false true l k f g j e = let z : ◌≡◌ {A = ℕ} 3 0 = ap (tag_of the_type) e in absurd (omega arith)
passed_by false false true k f g j e = let z : ◌≡◌ {A = ℕ} 1 0 = ap (tag_of the_type) e in absurd (omega arith)
passed_by false false false true f g j e = (refl, refl, refl)
passed_by false false false false f g j e = let z : ◌≡◌ {A = ℕ} 2 0 = ap (tag_of the_type) e in absurd (omega arith)

module _ (s page : List ℕ) (c : Contents) (read : read_sheet s ≡ accepted c) where
  abbrev d : Day
  d = day_of c

  pub each_passes : check_page s page ≡ Passed → (i : ℕ) → i < length page → check_set s (set_at page i) ≡ SetPassed
  each_passes e i l =
      let fits = (page_claim s page).passed_fits c read e in
      let G = (page_claim s page).passed_good c read e in
      let B = G.each_blocking i l in
      let (v, below, p) = count-pos_elim d.benches (on_page page i) B.some_bench in
      let J : Judged s (set_at page i) c =
      record { sheet_accepted = read; some_bench = (v, p); of_the_head = G.of_the_head i l } in
      judged_passed s (set_at page i) c J fits B

  -- What a set that passes by itself is.
  passes_alone : (set : ℕ) → check_set s set ≡ SetPassed
      → (ltb (foreign_in d.benches set) 64 ≡ false) × (ltb (long_job d) d.jobs ≡ false)
      × (blocks d (is_set 64 set) ≡ true)
  passes_alone set e =
      passed_by (eqb set 0) (ltb (foreign_in d.benches set) 64) (ltb (long_job d) d.jobs)
      (blocks d (is_set 64 set)) _ _ _ (sym (answer_is s set c read) ∙ e)

  -- An empty page has no set that could tell that each job fits.
  pub passing_sets : EachFits d → ((i : ℕ) → i < length page → check_set s (set_at page i) ≡ SetPassed)
      → NoneShared (length page) (on_page page) → check_page s page ≡ Passed
  passing_sets fits each apart =
      (page_claim s page).good_passed c read fits (record {
        each_blocking = λ i l.
            blocks-blocking d (sound_day d (accepted_day c (accepted_sound s c read)) fits) (on_page page i)
            (passes_alone (set_at page i) (each i l)).2;
        of_the_head = λ i l. head_only d.benches (set_at page i) (passes_alone (set_at page i) (each i l)).0;
        none_shared = apart;
      })

pub page_of_one : (s : List ℕ) (set : ℕ) (c : Contents) → read_sheet s ≡ accepted c → check_set s set ≡ SetPassed
    → check_page s (set ∷ []) ≡ Passed
page_of_one s set c read e =
    passing_sets s (set ∷ []) c read (none_long (day_of c) (passes_alone s (set ∷ []) c read set e).1)
    (only_one (λ i. check_set s (set_at (set ∷ []) i) ≡ SetPassed) e) (λ i k before l. absurd (omega arith))
  where
    only_one : (P : ℕ → Type 0) → P 0 → (i : ℕ) → i < 1 → P i
    only_one P p zero l = p
    only_one P p (suc i) l = absurd (omega arith)
