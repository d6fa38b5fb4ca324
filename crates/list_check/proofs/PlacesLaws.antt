-- Laws of good and bad places, and of their greatest load.
--     tested_good, tested_bad, good_tested, bad_tested      the tests of the list, and the facts
--     good_or_bad, not-both     one place a job: they are good or bad, and not both
--     greatest_is, greatest_only    the largest load and the fullest bench are the greatest load; no other numbers are
--     good_same, bad_same, greatest_same    the same of other places, if each job has the same bench there
use Prim.Native.Nat.{ℕ, ◌<◌}
use mathlib.Core.Path.{◌≡◌, sym, subst, ◌∙◌}
use mathlib.Core.Logic.{◌⊎◌, inl, inr}
use mathlib.Core.Bool.{Bool, true, false, ◌&&◌}
use native.Mathlib.Omega.{arith}
use Rattle.bools.proofs.BoolLaws.{split, clash, and_intro, and_left, and_right}
use Rattle.bools.proofs.BoolLaws.{and-false_left, and-false_right, and-false_elim}
use Rattle.sums.specs.Sum.{fullest}
use Rattle.sums.proofs.SearchLaws.{all_intro, all_elim, all-fails, all-false}
use Rattle.sums.proofs.LargestLaws.{largest_bound, largest-le, fullest-is}
use Rattle.day.specs.Day.{Day, load_of, largest_load, within_bound}
use Rattle.day.proofs.LoadLaws.{load_cong}
use Rattle.demand.specs.Demand.{is_assignment, keeps_bound}
use Rattle.list_check.specs.ListClaim.{GoodPlaces, BadPlaces, GreatestLoad}

module _ (d : Day) (a : ℕ → ℕ) where
  abbrev allowed : ℕ → Bool
  allowed j = d.allows j (a j)

  abbrev within : ℕ → Bool
  within v = within_bound d (load_of d a v)

  -- ── tests and facts ──

  module _ {n : ℕ} where
    pub tested_good : n ≡ d.jobs → (is_assignment d a && keeps_bound d a) ≡ true → GoodPlaces d n a
    tested_good e p =
        record {
          one_to_a_job = e;
          assignment = record {
            on_allowed = all_elim d.jobs allowed (and_left (is_assignment d a) (keeps_bound d a) p);
          };
          within_bound = all_elim d.benches within (and_right (is_assignment d a) (keeps_bound d a) p);
        }

    pub good_tested : GoodPlaces d n a → (is_assignment d a && keeps_bound d a) ≡ true
    good_tested g =
        and_intro (all_intro d.jobs allowed g.assignment.on_allowed)
        (all_intro d.benches within g.within_bound)

    pub tested_bad : n ≡ d.jobs → (is_assignment d a && keeps_bound d a) ≡ false → BadPlaces d n a
    tested_bad e p = elim (and-false_elim (is_assignment d a) (keeps_bound d a) p) [
      | inl q ↦ record { one_to_a_job = e; somewhere = inl (all-false d.jobs allowed q) }
      | inr q ↦ record { one_to_a_job = e; somewhere = inr (all-false d.benches within q) }
    ]

    pub bad_tested : BadPlaces d n a → (is_assignment d a && keeps_bound d a) ≡ false
    bad_tested b = elim b.somewhere [
      | inl (j, l, p) ↦ and-false_left (keeps_bound d a) (all-fails d.jobs allowed j l p)
      | inr (v, l, p) ↦ and-false_right (is_assignment d a) (all-fails d.benches within v l p)
    ]

    pub not-both : GoodPlaces d n a → BadPlaces d n a → ⊥
    not-both g x = clash (good_tested g) (bad_tested x)

    pub good_or_bad : n ≡ d.jobs → GoodPlaces d n a ⊎ BadPlaces d n a
    good_or_bad e = elim (split (is_assignment d a && keeps_bound d a)) [
      | inl p ↦ inl (tested_good e p)
      | inr p ↦ inr (tested_bad e p)
    ]

  -- ── the greatest load ──

  abbrev load : ℕ → ℕ
  load = load_of d a

  pub greatest_is : 0 < d.benches → GreatestLoad d a (largest_load d a) (fullest d.benches load)
  greatest_is some =
      let F = (fullest-is d.benches load some).0 in
      record {
        greatest = largest_bound d.benches load;
        one_of_them = (fullest d.benches load, F.one_of_them, F.has_largest);
        fullest_bench = F.one_of_them;
        fullest_load = F.has_largest;
        lower_less = λ v l. omega (arith, F.lower_less v l, F.has_largest);
      }

  pub greatest_only : {l f : ℕ} → GreatestLoad d a l f → (l ≡ largest_load d a) × (f ≡ fullest d.benches load)
  greatest_only {l} {f} G =
      let (v, below, e) = G.one_of_them in
      let same : l ≡ largest_load d a =
      omega (arith, largest_bound d.benches load v below, e, largest-le d.benches load l G.greatest) in (
        same,
        (fullest-is d.benches load (omega (arith, G.fullest_bench))).1 f (record {
          one_of_them = G.fullest_bench;
          has_largest = G.fullest_load ∙ same;
          lower_less = λ k h. omega (arith, G.lower_less k h, G.fullest_load);
        }),
      )

-- ── other places, with the same bench for each job ──

module _ (d : Day) (a b : ℕ → ℕ) (same : (j : ℕ) → j < d.jobs → a j ≡ b j) where
  load_same : (v : ℕ) → load_of d a v ≡ load_of d b v
  load_same = load_cong d a b same

  pub good_same : {n : ℕ} → GoodPlaces d n a → GoodPlaces d n b
  good_same g =
      record {
        one_to_a_job = g.one_to_a_job;
        assignment = record {
          on_allowed = λ j l. subst (λ (k : ℕ). d.allows j k ≡ true) (same j l) (g.assignment.on_allowed j l);
        };
        within_bound = λ v l. subst (λ (k : ℕ). within_bound d k ≡ true) (load_same v) (g.within_bound v l);
      }

  pub bad_same : {n : ℕ} → BadPlaces d n a → BadPlaces d n b
  bad_same x =
      record {
        one_to_a_job = x.one_to_a_job;
        somewhere = elim x.somewhere [
          | inl (j, l, p) ↦ inl (j, l, subst (λ (k : ℕ). d.allows j k ≡ false) (same j l) p)
          | inr (v, l, p) ↦ inr (v, l, subst (λ (k : ℕ). within_bound d k ≡ false) (load_same v) p)
        ];
      }

  pub greatest_same : {l f : ℕ} → GreatestLoad d a l f → GreatestLoad d b l f
  greatest_same {l} {f} G =
      let (v, below, e) = G.one_of_them in
      record {
        greatest = λ u h. omega (arith, load_same u, G.greatest u h);
        one_of_them = (v, below, sym (load_same v) ∙ e);
        fullest_bench = G.fullest_bench;
        fullest_load = sym (load_same f) ∙ G.fullest_load;
        lower_less = λ u h. omega (arith, load_same u, G.lower_less u h);
      }
