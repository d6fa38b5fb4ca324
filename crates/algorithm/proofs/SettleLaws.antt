-- Laws of settle, the rule for the rocks that stay neutral.
--     settling_none, settling_join     nothing settled yet; one part settled after another
--     AllDirected b dir                no rock is neutral
--     settle_from-ends                 each turn settles one system; at the end no rock is neutral
--     Settled b dir last               last directs every rock, as dir does where dir does, and gives each bench at most one rock more
--     settle-one_each                  so settle does, where no bench receives two rocks of a chain
use Prim.Native.Nat.{ℕ, zero, suc, ◌≤◌, ◌<◌}
use mathlib.Core.Path.{◌≡◌, refl, sym, ◌∙◌, ap, subst}
use mathlib.Core.Logic.{◌⊎◌, inl, inr}
use mathlib.Core.Bool.{true, false, ◌&&◌}
use native.Mathlib.Omega.{arith}
use lib.Dec.{eqb, ltb}
use borrow.Author.Tests.{ltb-true, ltb-false}
use Rattle.bools.proofs.BoolLaws.{split, clash, and_intro}
use Rattle.sums.specs.Search.{any, least}
use Rattle.sums.proofs.SearchLaws.{any_intro, any_elim, least-holds, least-before}
use Rattle.sums.proofs.CountLaws.{count-le, count-zero}
use Rattle.algorithm.specs.Board.{Board, Directions, neutral}
use Rattle.algorithm.specs.Settle.{neutral_at, settle_system, settle_from, settle}
use Rattle.algorithm.specs.Properties.{SoundBoard, Pointed, Received, OneEach}
use Rattle.algorithm.proofs.BoardLaws.{touches-low, touches-below, neutral-directed}
use Rattle.algorithm.proofs.FollowLaws.{neutrals}
use Rattle.algorithm.proofs.SystemLaws.{Kept, Settling, system-settles}

pub settling_none : (b : Board) (first : Directions) → Pointed b first → Settling b first first
settling_none b first pointed =
    record {
      pointed = pointed;
      kept = λ j p. refl;
      once = λ x e f r s. absurd (neutral-directed first e x r.2 r.3);
      quiet = λ x e r. absurd (neutral-directed first e x r.2 r.3);
    }

-- A bench that received in the first part has no neutral rock after it, so it receives nothing in the second.
module _ (b : Board) (first mid last : Directions) (s : Settling b first mid) (t : Settling b mid last) where
  still : (j : ℕ) → neutral mid j ≡ false → neutral last j ≡ false
  still j n = ap (λ (k : ℕ). eqb k 0) (t.kept j n) ∙ n

  -- What was received between first and last was received in the first part or in the second.
  received_part : (x e : ℕ) → Received b first last x e → Received b first mid x e ⊎ Received b mid last x e
  received_part x e (h, at, n, w) = elim (split (neutral mid e)) [
    | inl m ↦ inr (h, at, m, w)
    | inr m ↦ inl (h, at, n, sym (ap (λ (k : ℕ). eqb k (suc x)) (t.kept e m)) ∙ w)
  ]

  not-both : (x e f : ℕ) → Received b first mid x e → Received b mid last x f → ⊥
  not-both x e f r (h, at, n, w) = clash n (s.quiet x e r f h at)

  pub settling_join : Settling b first last
  settling_join =
      record {
        pointed = t.pointed;
        kept = λ j p. t.kept j (ap (λ (k : ℕ). eqb k 0) (s.kept j p) ∙ p) ∙ s.kept j p;
        once = λ x e f r q. elim (received_part x e r) [
          | inl r' ↦ elim (received_part x f q) [ inl q' ↦ s.once x e f r' q' | inr q' ↦ absurd (not-both x e f r' q') ]
          | inr r' ↦ elim (received_part x f q) [ inl q' ↦ absurd (not-both x f e q' r') | inr q' ↦ t.once x e f r' q' ]
        ];
        quiet = λ x e r i hi ti. elim (received_part x e r) [
          | inl r' ↦ still i (s.quiet x e r' i hi ti)
          | inr r' ↦ t.quiet x e r' i hi ti
        ];
      }

-- ── all systems ──

module _ (b : Board) (dir : Directions) where
  abbrev next_bench : ℕ
  next_bench = least b.benches (λ v. any b.jobs (neutral_at b dir v))

  settle-stops : (k : ℕ) → ltb next_bench b.benches ≡ false → settle_from (suc k) b dir ≡ dir
  unfolding settle_from
  settle-stops k e = cc

  settle-goes_on : (k : ℕ) → ltb next_bench b.benches ≡ true → settle_from (suc k) b dir ≡ settle_from k b (settle_system b dir next_bench)
  unfolding settle_from
  settle-goes_on k e = cc

abbrev pub AllDirected : Board → Directions → Type 0
AllDirected b dir = (j : ℕ) → j < b.jobs → b.rock j ≡ true → neutral dir j ≡ false

module _ (b : Board) (ok : SoundBoard b) (one : OneEach b) where
  pub settle_from-ends : (k : ℕ) (first dir : Directions) → Settling b first dir → neutrals b dir ≤ k
      → Settling b first (settle_from k b dir) × AllDirected b (settle_from k b dir)
  unfolding settle_from
  settle_from-ends zero first dir s l = (
    s,
    λ j h r. elim (split (neutral dir j)) [
      | inl n ↦ clash (and_intro r n) (count-zero b.jobs (λ i. b.rock i && neutral dir i) (omega arith) j h)
      | inr n ↦ n
    ],
  )
  settle_from-ends (suc k) first dir s l = elim (split (ltb (next_bench b dir) b.benches)) [
    | inl p ↦
        let hv = ltb-true (next_bench b dir) b.benches p in
        let (j, h, at) = any_elim b.jobs (neutral_at b dir (next_bench b dir)) (least-holds b.benches (λ v. any b.jobs (neutral_at b dir v)) hv) in
        let (t, less) = system-settles b ok dir s.pointed one (next_bench b dir) j hv h at in
        subst (λ (D : Directions). Settling b first D × AllDirected b D) (sym (settle-goes_on b dir k p))
        (settle_from-ends k first (settle_system b dir (next_bench b dir)) (settling_join b first dir (settle_system b dir (next_bench b dir)) s t) (omega arith))
    | inr p ↦ subst (λ (D : Directions). Settling b first D × AllDirected b D) (sym (settle-stops b dir k p)) (
      s,
      λ j h r. elim (split (neutral dir j)) [
        | inl n ↦ let t = touches-low b j r in
            clash (any_intro b.jobs (neutral_at b dir (b.low j)) j h (and_intro t n))
            (least-before b.benches (λ v. any b.jobs (neutral_at b dir v)) (b.low j)
            (omega (arith, ltb-false (next_bench b dir) b.benches p, touches-below b ok j (b.low j) h t)))
        | inr n ↦ n
      ],
    )
  ]

pub record Settled (b : Board) (dir last : Directions) : Type 0 where
  pub pointed : Pointed b last
  pub all_directed : AllDirected b last
  pub kept : Kept dir last
  pub once : (x e f : ℕ) → Received b dir last x e → Received b dir last x f → e ≡ f

pub settle-one_each : (b : Board) → SoundBoard b → OneEach b → (dir : Directions) → Pointed b dir → Settled b dir (settle b dir)
settle-one_each b ok one dir pointed =
    let (s, all) = settle_from-ends b ok one b.jobs dir dir (settling_none b dir pointed) (count-le b.jobs (λ j. b.rock j && neutral dir j)) in
    record { pointed = s.pointed; all_directed = all; kept = s.kept; once = s.once }
