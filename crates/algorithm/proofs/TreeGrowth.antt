-- Rocks directed one after another inside a tree, each away from a bench that is marked already.
--     Tree b r K             e(Y) + 1 ≤ |Y| for every non-empty part Y of K, where the rocks r are counted
--     used b r dir Y e       rock e lies inside Y, and is directed
--     Grown b r K dir Y      Y is part of K, and has at most one bench more than directed rocks inside it
--     grown_one              one bench alone
--     grown_new              the other end of the next rock is not in Y
--     grown_step             and with it Y has grown
use Prim.Native.Nat.{ℕ, suc, ◌≤◌, ◌<◌}
use mathlib.Core.Path.{◌≡◌, refl, sym, ◌∙◌, subst}
use mathlib.Core.Logic.{inl, inr, ⊎_elim}
use mathlib.Core.Bool.{Bool, true, false, not, ◌&&◌, ◌||◌}
use native.Mathlib.Omega.{arith}
use lib.Dec.{eqb}
use borrow.Author.Tests.{eq-eqb, eqb-true}
use Rattle.bools.proofs.BoolLaws.{split, and_intro, and_left, and_right, and-false_right, or_left, or_right, or_elim, not_intro_true, not_intro_false, not-true}
use Rattle.sums.specs.Sum.{count}
use Rattle.sums.proofs.CountLaws.{count_cong, count_mono, count-strict, count-insert, count_at}
use Rattle.algorithm.specs.Board.{Board, Directions, touches, other, neutral}
use Rattle.algorithm.specs.Forced.{direct}
use Rattle.algorithm.specs.Properties.{SoundBoard, Pointed}
use Rattle.algorithm.proofs.BoardLaws.{touches-rock, touches-end, other-low, other-high, other-below, touches-below}
use Rattle.algorithm.proofs.Graph.{edges, inside, inside-edge, inside-low, inside-high}
use Rattle.algorithm.proofs.Receivers.{direct-directed, direct-not-neutral}

abbrev pub Tree : Board → (ℕ → Bool) → (ℕ → Bool) → Type 0
Tree b r K = (Y : ℕ → Bool) → ((u : ℕ) → u < b.benches → Y u ≡ true → K u ≡ true) → (y : ℕ) → y < b.benches → Y y ≡ true
    → suc (edges b.jobs r b.low b.high Y) ≤ count b.benches Y

abbrev pub used : Board → (ℕ → Bool) → Directions → (ℕ → Bool) → ℕ → Bool
used b r dir Y e = inside r b.low b.high Y e && not (neutral dir e)

pub record Grown (b : Board) (r K : ℕ → Bool) (dir : Directions) (Y : ℕ → Bool) : Type 0 where
  pub part : (u : ℕ) → u < b.benches → Y u ≡ true → K u ≡ true
  pub full : count b.benches Y ≤ suc (count b.jobs (used b r dir Y))

pub grown_one : (b : Board) (r K : ℕ → Bool) (dir : Directions) (Y : ℕ → Bool) (v : ℕ) → v < b.benches → K v ≡ true
    → ((x : ℕ) → x < b.benches → Y x ≡ eqb x v) → Grown b r K dir Y
grown_one b r K dir Y v hv kv is =
    record {
      part = λ u hu p. subst (λ (x : ℕ). K x ≡ true) (sym (eqb-true u v (sym (is u hu) ∙ p))) kv;
      full = omega (arith, count_cong b.benches Y (λ x. eqb x v) is, count_at b.benches v hv);
    }

module _ (b : Board) (ok : SoundBoard b) (r K : ℕ → Bool) (tree : Tree b r K) (some-rocks : (j : ℕ) → j < b.jobs → r j ≡ true → b.rock j ≡ true)
    (dir : Directions) (Y : ℕ → Bool) (grown : Grown b r K dir Y) (pointed : Pointed b dir)
    (u j : ℕ) (h : j < b.jobs) (t : touches b j u ≡ true) (rj : r j ≡ true) (n : neutral dir j ≡ true) (yu : Y u ≡ true) where
  ends-inside : (X : ℕ → Bool) → X u ≡ true → X (other b j u) ≡ true → inside r b.low b.high X j ≡ true
  ends-inside X p q =
      ⊎_elim
      (λ e. and_intro (and_intro rj (subst (λ (x : ℕ). X x ≡ true) e p)) (subst (λ (x : ℕ). X x ≡ true) (other-low b j u e) q))
      (λ e. and_intro (and_intro rj (subst (λ (x : ℕ). X x ≡ true) (other-high b ok j u h (touches-rock b j u t) e) q)) (subst (λ (x : ℕ). X x ≡ true) e p))
      (touches-end b j u t)

  -- With the next rock, the set has one directed rock more inside it.
  used-more : (X : ℕ → Bool) → ((x : ℕ) → x < b.benches → Y x ≡ true → X x ≡ true) → X u ≡ true → X (other b j u) ≡ true
      → suc (count b.jobs (used b r dir Y)) ≤ count b.jobs (used b r (direct b dir u j) X)
  used-more X more xu xw =
      count-strict b.jobs (used b r dir Y) (used b r (direct b dir u j) X) j
      (λ i hi p.
      let here = and_left (inside r b.low b.high Y i) (not (neutral dir i)) p in
      let ri = inside-edge r b.low b.high Y i here in
      let below = ok.ends_below i hi (some-rocks i hi ri) in
      and_intro
      (and_intro (and_intro ri (more (b.low i) (omega (arith, ok.ends_differ i hi (some-rocks i hi ri))) (inside-low r b.low b.high Y i here)))
      (more (b.high i) below (inside-high r b.low b.high Y i here)))
      (not_intro_true (direct-directed b dir dir pointed u j h i
      (not-true (neutral dir i) (and_right (inside r b.low b.high Y i) (not (neutral dir i)) p)))))
      h
      (and-false_right (inside r b.low b.high Y j) (not_intro_false n))
      (and_intro (ends-inside X xu xw) (not_intro_true (direct-not-neutral b dir dir pointed u j h)))

  -- Else Y would have as many rocks inside it as benches.
  pub grown_new : Y (other b j u) ≡ false
  grown_new = elim (split (Y (other b j u))) [
    | inl p ↦ absurd (omega (
      arith,
      grown.full,
      used-more Y (λ x hx q. q) yu p,
      count_mono b.jobs (used b r (direct b dir u j) Y) (inside r b.low b.high Y)
          (λ i hi q. and_left (inside r b.low b.high Y i) (not (neutral (direct b dir u j) i)) q),
      tree Y grown.part u (touches-below b ok j u h t) yu,
    ))
    | inr p ↦ p
  ]

  pub grown_step : K (other b j u) ≡ true → (Y' : ℕ → Bool) → ((x : ℕ) → x < b.benches → Y' x ≡ (Y x || eqb x (other b j u)))
      → Grown b r K (direct b dir u j) Y'
  grown_step kw Y' is =
      let hw = other-below b ok j u h t in
      let more : (x : ℕ) → x < b.benches → Y x ≡ true → Y' x ≡ true = λ x hx p. is x hx ∙ or_left (eqb x (other b j u)) p in
      record {
        part = λ x hx p. elim (or_elim (Y x) (eqb x (other b j u)) (sym (is x hx) ∙ p)) [
          | inl q ↦ grown.part x hx q
          | inr q ↦ subst (λ (k : ℕ). K k ≡ true) (sym (eqb-true x (other b j u) q)) kw
        ];
        full = omega (
          arith,
          grown.full,
          count_cong b.benches Y' (λ x. Y x || eqb x (other b j u)) is,
          count-insert b.benches Y (other b j u) hw grown_new,
          used-more Y' more (more u (touches-below b ok j u h t) yu)
              (is (other b j u) hw ∙ or_right (Y (other b j u)) (eq-eqb (other b j u) (other b j u) refl)),
        );
      }
