-- The procedure finds the least weight of a placement of heavy jobs with two ends.
--     Meets g m i t     what holds of what the first i jobs come to
--     put_light, put_stuck, put-placed    one job more, by its kind
--     stuck-after       where there is no placement, there is none with more jobs
--     start_sound       at the start
--     base_small        the answer is no more than all heavy jobs weigh
--     all_sound         after any number of jobs
--     Lowest g n w      w is reached by a placement, and none is below
--     stuck_is_none     where the answer is that there is no placement, there is none
--     going_is_lowest   else the answer is the least
use Prim.Native.Nat.{ℕ, zero, suc, ◌+◌, ◌≤◌, ◌<◌}
use mathlib.Core.Path.{◌≡◌, refl, sym, ap, subst, ◌∙◌}
use mathlib.Core.Bool.{true, false, not}
use mathlib.Core.Logic.{inl, inr}
use native.Mathlib.Omega.{arith}
use native.Mathlib.Nat.{add-zero, add-suc, le_dest}
use Rattle.bools.proofs.BoolLaws.{split, clash}
use Rattle.sums.specs.Sum.{on, sum}
use Rattle.sums.proofs.SumLaws.{sum-zero}
use Rattle.placements.specs.Classes.{Heavies, Classes, at_start, stuck_at, placed, Tried, stuck, going, put_job}
use Rattle.placements.specs.Classes.{after}
use Rattle.placements.proofs.ClassFacts.{held, spent, total, Puts, EndsBelow, Free, Sound, puts_before}
use Rattle.placements.proofs.ClassUpper.{spent-most}
use Rattle.placements.proofs.ClassSteps.{light_job, no-more-room, placed-sound}

nothing_free : (m : ℕ) (s : Classes) → Free m s (λ b. false)
nothing_free m s =
    record { unshut = λ b l p. clash p refl; one_each = λ b c l t p q same. clash p refl }

module _ (g : Heavies) where
  pub put_light : (i : ℕ) (t : Tried) → g.heavy i ≡ false → put_job g t i ≡ t
  unfolding put_job
  put_light i stuck p = refl
  put_light i (going s) p = rw p refl

  pub put_stuck : (i : ℕ) (s : Classes) → g.heavy i ≡ true → stuck_at g s i ≡ true → put_job g (going s) i ≡ stuck
  unfolding put_job
  put_stuck i s p q = rw (p, q) refl

  pub put-placed : (i : ℕ) (s : Classes) → g.heavy i ≡ true → stuck_at g s i ≡ false
      → put_job g (going s) i ≡ going (placed g s i)
  unfolding put_job
  put-placed i s p q = rw (p, q) refl

  stays_stuck : (i : ℕ) → put_job g stuck i ≡ stuck
  unfolding put_job
  stays_stuck i = refl

  stuck_from : (i k : ℕ) → after g i ≡ stuck → after g (i + k) ≡ stuck
  unfolding after
  stuck_from i zero e = rw (add-zero i) e
  stuck_from i (suc k) e =
      rw (add-suc) (ap (λ (t : Tried). put_job g t (i + k)) (stuck_from i k e) ∙ stays_stuck (i + k))

  pub stuck-after : (i n : ℕ) → i ≤ n → after g i ≡ stuck → after g n ≡ stuck
  stuck-after i n l e = let d = le_dest l in rw (← d.1) (stuck_from i d.0 e)

module _ (g : Heavies) (m : ℕ) where
  abbrev pub Meets : ℕ → Tried → Type 0
  Meets i stuck = (place : ℕ → ℕ) → Puts g i place → ⊥
  Meets i (going s) = Sound g m i s

  start_sound : Sound g m 0 at_start
  start_sound =
      record {
        none_free = λ place P b l p. clash p refl;
        one_free = λ place P b c l t e p q. e;
        no_less = λ place P. omega (arith, sum-zero m (λ b. on (not (held g 0 place b)) 0) (λ b l. refl));
        reached = λ f free. (
          λ j. j,
          record { on_end = λ j l p. absurd (omega arith); apart = λ j k l t p q e. absurd (omega arith) },
          λ b l p. refl,
          omega arith,
        );
        alike = λ b c l t e. refl;
        small = λ b l. omega arith;
      }

  -- What the cheapest choice costs is no more than all heavy jobs weigh.
  pub base_small : (i : ℕ) (s : Classes) → Sound g m i s → s.base ≤ total g i
  base_small i s S =
      let (place, P, left, most) = S.reached (λ b. false) (nothing_free m s) in
      omega (arith, S.no_less place P, spent-most g i place)

  module _ (n : ℕ) (ends : EndsBelow g m n) where
    put_meets : (i : ℕ) → i < n → (t : Tried) → Meets i t → Meets (suc i) (put_job g t i)
    put_meets i l stuck none =
        subst (Meets (suc i)) (sym (stays_stuck g i)) (λ place P. none place (puts_before g i place P))
    put_meets i l (going s) S = elim (split (g.heavy i)) [
      | inr p ↦ subst (Meets (suc i)) (sym (put_light g i (going s) p)) (light_job g m i s S p)
      | inl p ↦
          let low = ends.low_below i l p in
          let high = ends.high_below i l p in
          elim (split (stuck_at g s i)) [
            | inl q ↦ subst (Meets (suc i)) (sym (put_stuck g i s p q)) (no-more-room g m i s S p low high q)
            | inr q ↦ subst (Meets (suc i)) (sym (put-placed g i s p q)) (placed-sound g m i s S p low high q)
          ]
    ]

    pub all_sound : (i : ℕ) → i ≤ n → Meets i (after g i)
    unfolding after
    all_sound zero l = start_sound
    all_sound (suc i) l = put_meets i (omega arith) (after g i) (all_sound i (omega arith))

    pub record Lowest (w : ℕ) : Type 0 where
      pub reached : (place : ℕ → ℕ) × Puts g n place × (spent g n place ≡ w)
      pub none_below : (place : ℕ → ℕ) → Puts g n place → w ≤ spent g n place

    pub stuck_is_none : after g n ≡ stuck → (place : ℕ → ℕ) → Puts g n place → ⊥
    stuck_is_none e = subst (Meets n) e (all_sound n (omega arith))

    pub going_is_lowest : (s : Classes) → after g n ≡ going s → Lowest s.base
    going_is_lowest s e =
        let S : Sound g m n s = subst (Meets n) e (all_sound n (omega arith)) in
        let nothing : Free m s (λ b. false) =
        record { unshut = λ b l p. clash p refl; one_each = λ b c l t p q same. clash p refl } in
        let (place, P, left, most) = S.reached (λ b. false) nothing in
        let zeros : sum m (λ b. on false (s.extra b)) ≡ 0 = sum-zero m (λ b. on false (s.extra b)) (λ b l. refl) in
        record {
          reached = (place, P, omega (arith, most, zeros, S.no_less place P));
          none_below = λ other Q. omega (arith, S.no_less other Q);
        }
