-- Laws of forced orientations one after another, and of chains.
--     forces_intro, forces-touches, forces-neutral, forces-more   a rock is forced from a bench: what that takes, and back
--     forcing-none, unforced          a bench forces nothing: each of its neutral rocks would leave it within the bound, and back
--     step_grows, step_pointed        one forced orientation
--     steps_join                      forced orientations, then further ones
--     steps_grow, steps_pointed       forced orientations keep what is directed, and direct rocks towards their ends
--     steps-neutral, steps-towards    what is neutral at the end was neutral before; what is directed stays so
--     chain_grows, chain_pointed      the same of chains
--     steps_chain                     forced orientations after a chain that begins at a stable state go on with the chain
use Prim.Native.Nat.{ℕ, ◌+◌, ◌≤◌, ◌<◌}
use mathlib.Core.Path.{◌≡◌}
use mathlib.Core.Logic.{inl, inr}
use mathlib.Core.Bool.{true, false, ◌&&◌}
use native.Mathlib.Omega.{arith}
use lib.Dec.{ltb}
use borrow.Author.Tests.{ltb-true, lt-ltb}
use Rattle.bools.proofs.BoolLaws.{split, clash, and_intro, and_left, and_right}
use Rattle.bools.proofs.OrderLaws.{lt-or-le}
use Rattle.sums.proofs.SearchLaws.{any_intro, any_false}
use Rattle.algorithm.specs.Board.{Board, Directions, touches, neutral, towards, load}
use Rattle.algorithm.specs.Forced.{forces, direct, forcing}
use Rattle.algorithm.specs.Properties.{SoundBoard, Pointed, ForcedSteps, no_step, a_step, Stable, Chain, begins, goes_on}
use Rattle.algorithm.proofs.BoardLaws.{pointed-direct}
use Rattle.algorithm.proofs.GrowthLaws.{Grows, grows_refl, grows_join, grows-direct, grows-neutral, gain_received}

-- ── one forced orientation ──

module _ (b : Board) (dir : Directions) (v : ℕ) where
  pub forces_intro : (j : ℕ) → touches b j v ≡ true → neutral dir j ≡ true → b.bound < load b dir v + b.weight j → forces b dir v j ≡ true
  forces_intro j t n more = and_intro (and_intro t n) (lt-ltb b.bound (load b dir v + b.weight j) more)

  module _ (j : ℕ) (f : forces b dir v j ≡ true) where
    both : touches b j v && neutral dir j ≡ true
    both = and_left (touches b j v && neutral dir j) (ltb b.bound (load b dir v + b.weight j)) f

    pub forces-touches : touches b j v ≡ true
    forces-touches = and_left (touches b j v) (neutral dir j) both

    pub forces-neutral : neutral dir j ≡ true
    forces-neutral = and_right (touches b j v) (neutral dir j) both

    pub forces-more : b.bound < load b dir v + b.weight j
    forces-more = ltb-true b.bound (load b dir v + b.weight j)
        (and_right (touches b j v && neutral dir j) (ltb b.bound (load b dir v + b.weight j)) f)

    pub step_grows : Grows dir (direct b dir v j)
    step_grows = grows-direct b dir v j forces-neutral

    pub step_pointed : SoundBoard b → Pointed b dir → j < b.jobs → Pointed b (direct b dir v j)
    step_pointed ok pointed h = pointed-direct b ok dir pointed v j h forces-touches

  pub unforced : forcing b dir v ≡ false → (j : ℕ) → j < b.jobs → touches b j v ≡ true → neutral dir j ≡ true
      → load b dir v + b.weight j ≤ b.bound
  unforced none j h t n = elim (lt-or-le b.bound (load b dir v + b.weight j)) [
    | inl more ↦ clash (any_intro b.jobs (forces b dir v) j h (forces_intro j t n more)) none
    | inr l ↦ l
  ]

  pub forcing-none : ((j : ℕ) → j < b.jobs → touches b j v ≡ true → neutral dir j ≡ true → load b dir v + b.weight j ≤ b.bound)
      → forcing b dir v ≡ false
  forcing-none within = any_false b.jobs (forces b dir v) (λ j h. elim (split (forces b dir v j)) [
    | inl f ↦ absurd (omega (arith, forces-more j f, within j h (forces-touches j f) (forces-neutral j f)))
    | inr q ↦ q
  ])

-- ── forced orientations one after another ──

module _ (b : Board) where
  pub steps_join : {dir mid last : Directions} → ForcedSteps b dir mid → ForcedSteps b mid last → ForcedSteps b dir last
  steps_join no_step q = q
  steps_join (a_step v j hv hj f p) q = a_step v j hv hj f (steps_join p q)

  pub steps_grow : {dir last : Directions} → ForcedSteps b dir last → Grows dir last
  steps_grow no_step = grows_refl
  steps_grow (a_step {dir} v j hv hj f p) = grows_join (step_grows b dir v j f) (steps_grow p)

  pub steps-neutral : {dir last : Directions} → ForcedSteps b dir last → (e : ℕ) → neutral last e ≡ true → neutral dir e ≡ true
  steps-neutral p = grows-neutral (steps_grow p)

  pub steps-towards : {dir last : Directions} → ForcedSteps b dir last → (e v : ℕ) → towards dir e v ≡ true → towards last e v ≡ true
  steps-towards p = (steps_grow p).keeps

  pub chain_grows : {first dir : Directions} → Chain b first dir → Grows first dir
  chain_grows {first} (begins v j hv hj t n) = grows-direct b first v j n
  chain_grows (goes_on {dir} c v j e hv hj t n r) = grows_join (chain_grows c) (grows-direct b dir v j n)

module _ (b : Board) (ok : SoundBoard b) where
  pub steps_pointed : {dir last : Directions} → ForcedSteps b dir last → Pointed b dir → Pointed b last
  steps_pointed no_step pointed = pointed
  steps_pointed (a_step {dir} v j hv hj f p) pointed = steps_pointed p (step_pointed b dir v j f ok pointed hj)

  pub chain_pointed : {first dir : Directions} → Chain b first dir → Pointed b first → Pointed b dir
  chain_pointed {first} (begins v j hv hj t n) pointed = pointed-direct b ok first pointed v j hj t
  chain_pointed (goes_on {dir} c v j e hv hj t n r) pointed = pointed-direct b ok dir (chain_pointed c pointed) v j hj t

-- ── chains from a stable state ──

-- In a stable state no rock is forced. If one is forced now from v, the rock load of v has grown, so v has received a rock of the chain.
pub steps_chain : (b : Board) {first dir last : Directions} → Stable b first → Chain b first dir → ForcedSteps b dir last → Chain b first last
steps_chain b stable c no_step = c
steps_chain b {first} stable c (a_step {dir} v j hv hj f p) =
    let g = chain_grows b c in
    let t = forces-touches b dir v j f in
    let n = forces-neutral b dir v j f in
    let (e, r) = gain_received b g v (omega (arith, forces-more b dir v j f, unforced b first v (stable v hv) j hj t (grows-neutral g j n))) in
    steps_chain b stable (goes_on c v j e hv hj t n r) p
