-- The loads of benches, summed job by job.
--     after_none, after_more        before the first job, and after one job more
--     length-after                  a table of loads keeps its length
--     load_after                    a load that fits is what stood there and the amounts of the jobs on its bench
--     after_cong                    where the same jobs are left, the loads are the same
--     bench_load                    where no job is left, the amounts are the minutes
use Prim.Native.Nat.{ℕ, zero, suc, ◌+◌, ◌<◌, ◌^◌}
use mathlib.Core.Path.{◌≡◌, refl, sym, ap, ap₂, subst, ◌∙◌}
use mathlib.Core.Bool.{Bool, false, cond}
use mathlib.Core.List.{List, []}
use native.Mathlib.Omega.{arith}
use lib.ListN.{length, get_or, set, length-set}
use lib.Seq.{get_or-set_same, get_or-set_other}
use mathlib.Core.Logic.{inl, inr}
use native.Mathlib.Numerals.{add-one}
use borrow.Author.Tests.{eq-eqb, ne_eqb}
use Rattle.bools.proofs.BoolLaws.{split}
use Rattle.bools.proofs.OrderLaws.{eq-or-ne}
use Rattle.sums.specs.Sum.{sum}
use Rattle.arrays.specs.Arrays.{plus_of}
use Rattle.arrays.proofs.NumberLaws.{plus_fits}
use Rattle.loads.specs.Loads.{minutes_on, amount_on, added_at, loads_after, bench_loads}

module _ (amount : List ℕ) (left : List Bool) (place : List ℕ) where
  -- ── one job ──

  length-added : (own : List ℕ) (j : ℕ) → length (added_at amount left place own j) ≡ length own
  length-added own j = elim (split (get_or left j false)) [
    | inl l ↦ rw l
    | inr l ↦ rw l (length-set own (get_or place j 0) (plus_of (get_or own (get_or place j 0) 0) (get_or amount j 0)))
  ]

  load_put : (own : List ℕ) (v j : ℕ) → get_or left j false ≡ false → v < length own
      → get_or own v 0 + amount_on amount left place v j < 2 ^ 63
      → get_or (set own (get_or place j 0) (plus_of (get_or own (get_or place j 0) 0) (get_or amount j 0))) v 0
      ≡ get_or own v 0 + amount_on amount left place v j
  load_put own v j l h fits =
      let u = get_or place j 0 in
      elim (eq-or-ne v u) [
        | inl same ↦
            let here : amount_on amount left place v j ≡ get_or amount j 0 = rw (l, eq-eqb u v (sym same)) in
            ap (λ (k : ℕ). get_or (set own u (plus_of (get_or own u 0) (get_or amount j 0))) k 0) same
            ∙ get_or-set_same own u (plus_of (get_or own u 0) (get_or amount j 0)) 0 (subst (λ (k : ℕ). k < length own) same h)
            ∙ ap (λ (k : ℕ). plus_of (get_or own k 0) (get_or amount j 0)) (sym same)
            ∙ plus_fits (get_or own v 0) (get_or amount j 0) (omega (arith, fits, here))
            ∙ ap (λ (k : ℕ). get_or own v 0 + k) (sym here)
        | inr ne ↦
            let none : amount_on amount left place v j ≡ 0 = rw (l, ne_eqb u v (λ q. ne (sym q))) in
            get_or-set_other own u v (plus_of (get_or own u 0) (get_or amount j 0)) 0 ne ∙ omega (arith, none)
      ]

  load_added : (own : List ℕ) (v j : ℕ) → v < length own
      → get_or own v 0 + amount_on amount left place v j < 2 ^ 63
      → get_or (added_at amount left place own j) v 0 ≡ get_or own v 0 + amount_on amount left place v j
  load_added own v j h fits = elim (split (get_or left j false)) [
    | inl l ↦ rw l (omega arith)
    | inr l ↦ ap (λ (b : Bool). get_or (cond b own (set own (get_or place j 0)
        (plus_of (get_or own (get_or place j 0) 0) (get_or amount j 0)))) v 0) l ∙ load_put own v j l h fits
  ]

  -- ── job after job ──

  pub after_none : (own : List ℕ) → own ≡ loads_after 0 amount left place own
  unfolding loads_after
  after_none own = refl

  pub after_more : (own own' : List ℕ) (n : ℕ) {before : List ℕ} → before ≡ loads_after n amount left place own
      → own' ≡ added_at amount left place before n → own' ≡ loads_after (n + 1) amount left place own
  unfolding loads_after
  after_more own own' n e added = rw add-one (added ∙ ap (λ (x : List ℕ). added_at amount left place x n) e)

  pub length-after : (n : ℕ) (own : List ℕ) → length (loads_after n amount left place own) ≡ length own
  unfolding loads_after
  length-after zero own = refl
  length-after (suc n) own = length-added (loads_after n amount left place own) n ∙ length-after n own

  load_at : (n : ℕ) (own : List ℕ) (v : ℕ) → v < length own
      → get_or own v 0 + sum n (amount_on amount left place v) < 2 ^ 63
      → get_or (loads_after n amount left place own) v 0 ≡ get_or own v 0 + sum n (amount_on amount left place v)
  unfolding loads_after
  load_at zero own v h fits = omega arith
  load_at (suc n) own v h fits =
      let before = load_at n own v h (omega arith) in
      load_added (loads_after n amount left place own) v n (omega (arith, length-after n own))
      (omega (arith, before, fits)) ∙ omega (arith, before)

  pub load_after : (n : ℕ) (own : List ℕ) {own' : List ℕ} → own' ≡ loads_after n amount left place own
      → (v : ℕ) → v < length own → get_or own v 0 + sum n (amount_on amount left place v) < 2 ^ 63
      → get_or own' v 0 ≡ get_or own v 0 + sum n (amount_on amount left place v)
  load_after n own e v h fits = ap (λ (x : List ℕ). get_or x v 0) e ∙ load_at n own v h fits

-- ── no job left ──

pub after_cong : (n : ℕ) (amount : List ℕ) (left right : List Bool) (place own : List ℕ)
    → ((j : ℕ) → get_or left j false ≡ get_or right j false)
    → loads_after n amount left place own ≡ loads_after n amount right place own
unfolding loads_after
after_cong zero amount left right place own same = refl
after_cong (suc n) amount left right place own same =
    ap₂ (λ (b : Bool) (x : List ℕ).
    cond b x (set x (get_or place n 0) (plus_of (get_or x (get_or place n 0) 0) (get_or amount n 0))))
    (same n) (after_cong n amount left right place own same)

pub bench_load : (n : ℕ) (minutes place own : List ℕ) {own' : List ℕ} → own' ≡ bench_loads n minutes place own
    → (v : ℕ) → v < length own → get_or own v 0 + sum n (minutes_on minutes place v) < 2 ^ 63
    → get_or own' v 0 ≡ get_or own v 0 + sum n (minutes_on minutes place v)
bench_load n minutes place own e = load_after minutes [] place n own e
