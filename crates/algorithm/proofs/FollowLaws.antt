-- Laws of follow, which directs every neutral rock at a marked bench away from it and marks its other end.
--     neutrals b dir             how many rocks are neutral
--     neutrals-direct            one less after each
--     neutral-before             a rock that is neutral now was neutral before, where directed rocks were kept
--     neutral_at-touches, neutral_at-neutral   the two parts of being a neutral rock at a bench
--     get_or-mark, mark_keeps, mark_here, get_or-alone  marks after one more bench was marked; one mark alone
--     Quiet b dir marked         no marked bench has a neutral rock
--     follow-ends                what every step keeps holds at the end, and then no marked bench has a neutral rock
use Prim.Native.Nat.{ℕ, zero, suc, ◌≤◌, ◌<◌}
use mathlib.Core.Path.{◌≡◌, sym, ◌∙◌, ap, subst}
use mathlib.Core.Logic.{inl, inr}
use mathlib.Core.Bool.{Bool, true, false, ◌&&◌, ◌||◌}
use mathlib.Core.List.{List}
use native.Mathlib.Omega.{arith}
use lib.ListN.{length, get_or, set, replicate, length-replicate, get_or-replicate}
use lib.Seq.{get_or-set_same, get_or-set_other}
use lib.Dec.{eqb, ltb}
use borrow.Author.Tests.{eq-eqb, ne_eqb, ltb-true, ltb-false}
use Rattle.bools.proofs.BoolLaws.{split, clash, and_intro, and_left, and_right, and-false_right, or_right, or_nothing}
use Rattle.bools.proofs.OrderLaws.{eq-or-ne}
use Rattle.sums.specs.Sum.{count}
use Rattle.sums.specs.Search.{any, least}
use Rattle.sums.proofs.SearchLaws.{any_intro, any-least, least-holds, least-before}
use Rattle.sums.proofs.CountLaws.{count-strict, count-zero}
use Rattle.algorithm.specs.Board.{Board, Directions, touches, other, neutral}
use Rattle.algorithm.specs.Forced.{direct}
use Rattle.algorithm.specs.Settle.{neutral_at, follow}
use Rattle.algorithm.specs.Properties.{Pointed}
use Rattle.algorithm.proofs.BoardLaws.{touches-rock}
use Rattle.algorithm.proofs.Receivers.{direct-not-neutral, direct-neutral-before}

abbrev pub neutrals : Board → Directions → ℕ
neutrals b dir = count b.jobs (λ j. b.rock j && neutral dir j)

pub neutrals-direct : (b : Board) (dir : Directions) → Pointed b dir → (v j : ℕ) → j < b.jobs → touches b j v ≡ true → neutral dir j ≡ true
    → neutrals b (direct b dir v j) < neutrals b dir
neutrals-direct b dir pointed v j h t n =
    count-strict b.jobs (λ i. b.rock i && neutral (direct b dir v j) i) (λ i. b.rock i && neutral dir i) j
    (λ i hi p. and_intro (and_left (b.rock i) (neutral (direct b dir v j) i) p)
    (direct-neutral-before b dir dir pointed v j h i (and_right (b.rock i) (neutral (direct b dir v j) i) p)).1)
    h (and-false_right (b.rock j) (direct-not-neutral b dir dir pointed v j h)) (and_intro (touches-rock b j v t) n)

pub neutral-before : (first dir : Directions) (j : ℕ) → (neutral first j ≡ false → get_or dir j 0 ≡ get_or first j 0) → neutral dir j ≡ true → neutral first j ≡ true
neutral-before first dir j kept n = elim (split (neutral first j)) [
  | inl p ↦ p
  | inr p ↦ clash n (ap (λ (k : ℕ). eqb k 0) (kept p) ∙ p)
]

module _ (b : Board) (dir : Directions) (v j : ℕ) (p : neutral_at b dir v j ≡ true) where
  pub neutral_at-touches : touches b j v ≡ true
  neutral_at-touches = and_left (touches b j v) (neutral dir j) p

  pub neutral_at-neutral : neutral dir j ≡ true
  neutral_at-neutral = and_right (touches b j v) (neutral dir j) p

-- ── marks ──

module _ (marked : List Bool) (w : ℕ) (h : w < length marked) where
  pub mark_here : get_or (set marked w true) w false ≡ true
  mark_here = get_or-set_same marked w true false h

  pub mark_keeps : (x : ℕ) → get_or marked x false ≡ true → get_or (set marked w true) x false ≡ true
  mark_keeps x p = elim (eq-or-ne x w) [
    | inl e ↦ subst (λ (k : ℕ). get_or (set marked w true) k false ≡ true) (sym e) mark_here
    | inr ne ↦ get_or-set_other marked w x true false ne ∙ p
  ]

  pub get_or-mark : (x : ℕ) → get_or (set marked w true) x false ≡ (get_or marked x false || eqb x w)
  get_or-mark x = elim (eq-or-ne x w) [
    | inl e ↦ subst (λ (k : ℕ). get_or (set marked w true) k false ≡ true) (sym e) mark_here ∙ sym (or_right (get_or marked x false) (eq-eqb x w e))
    | inr ne ↦ get_or-set_other marked w x true false ne ∙ sym (ap (λ (k : Bool). get_or marked x false || k) (ne_eqb x w ne) ∙ or_nothing (get_or marked x false))
  ]

pub get_or-alone : (n w : ℕ) → w < n → (x : ℕ) → x < n → get_or (set (replicate n false) w true) x false ≡ eqb x w
get_or-alone n w h x hx =
    get_or-mark (replicate n false) w (omega (arith, length-replicate {A = Bool} n false)) x
    ∙ ap (λ (k : Bool). k || eqb x w) (get_or-replicate n x false false hx)

-- ── all steps ──

module _ (b : Board) (dir : Directions) (marked : List Bool) where
  abbrev next_bench : ℕ
  next_bench = least b.benches (λ v. get_or marked v false && any b.jobs (neutral_at b dir v))

  abbrev next_rock : ℕ
  next_rock = least b.jobs (neutral_at b dir next_bench)

  follow-stops : (k : ℕ) → ltb next_bench b.benches ≡ false → follow (suc k) b dir marked ≡ dir
  unfolding follow
  follow-stops k e = cc

  follow-goes_on : (k : ℕ) → ltb next_bench b.benches ≡ true
      → follow (suc k) b dir marked ≡ follow k b (direct b dir next_bench next_rock) (set marked (other b next_rock next_bench) true)
  unfolding follow
  follow-goes_on k e = cc

-- No marked bench has a neutral rock.
abbrev pub Quiet : Board → Directions → List Bool → Type 0
Quiet b dir marked = (x : ℕ) → x < b.benches → get_or marked x false ≡ true → (j : ℕ) → j < b.jobs → touches b j x ≡ true → neutral dir j ≡ false

module _ (b : Board) (P : Directions → List Bool → Type 0) (pointed : (dir : Directions) (marked : List Bool) → P dir marked → Pointed b dir)
    (step : (dir : Directions) (marked : List Bool) → P dir marked → (v j : ℕ) → v < b.benches → get_or marked v false ≡ true
    → j < b.jobs → touches b j v ≡ true → neutral dir j ≡ true → P (direct b dir v j) (set marked (other b j v) true)) where
  -- Each step directs a neutral rock, so as many steps as there are neutral rocks are enough.
  pub follow-ends : (k : ℕ) (dir : Directions) (marked : List Bool) → P dir marked → neutrals b dir ≤ k
      → (last : List Bool) × P (follow k b dir marked) last × Quiet b (follow k b dir marked) last
  unfolding follow
  follow-ends zero dir marked p l = (
    marked,
    p,
    λ x hx m j h t. elim (split (neutral dir j)) [
      | inl n ↦ clash (and_intro (touches-rock b j x t) n) (count-zero b.jobs (λ i. b.rock i && neutral dir i) (omega arith) j h)
      | inr n ↦ n
    ],
  )
  follow-ends (suc k) dir marked p l = elim (split (ltb (next_bench b dir marked) b.benches)) [
    | inl q ↦
        let hv : next_bench b dir marked < b.benches = ltb-true (next_bench b dir marked) b.benches q in
        let both = least-holds b.benches (λ v. get_or marked v false && any b.jobs (neutral_at b dir v)) hv in
        let some = and_right (get_or marked (next_bench b dir marked) false) (any b.jobs (neutral_at b dir (next_bench b dir marked))) both in
        let h = any-least b.jobs (neutral_at b dir (next_bench b dir marked)) some in
        let at = least-holds b.jobs (neutral_at b dir (next_bench b dir marked)) h in
        let t = neutral_at-touches b dir (next_bench b dir marked) (next_rock b dir marked) at in
        let n = neutral_at-neutral b dir (next_bench b dir marked) (next_rock b dir marked) at in
        subst (λ (D : Directions). (last : List Bool) × P D last × Quiet b D last) (sym (follow-goes_on b dir marked k q))
        (follow-ends k (direct b dir (next_bench b dir marked) (next_rock b dir marked)) (set marked (other b (next_rock b dir marked) (next_bench b dir marked)) true)
        (step dir marked p (next_bench b dir marked) (next_rock b dir marked) hv
        (and_left (get_or marked (next_bench b dir marked) false) (any b.jobs (neutral_at b dir (next_bench b dir marked))) both) h t n)
        (omega (arith, neutrals-direct b dir (pointed dir marked p) (next_bench b dir marked) (next_rock b dir marked) h t n)))
    | inr q ↦ subst (λ (D : Directions). (last : List Bool) × P D last × Quiet b D last) (sym (follow-stops b dir marked k q)) (
      marked,
      p,
      λ x hx m j h t. elim (split (neutral dir j)) [
        | inl n ↦ clash (and_intro m (any_intro b.jobs (neutral_at b dir x) j h (and_intro t n)))
            (least-before b.benches (λ v. get_or marked v false && any b.jobs (neutral_at b dir v)) x
            (omega (arith, ltb-false (next_bench b dir marked) b.benches q)))
        | inr n ↦ n
      ],
    )
  ]
