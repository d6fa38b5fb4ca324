-- The potential: how far below the number of benches the levels of the pebbles' benches lie, summed over the pebbles.
--     potential b x        the sum; a pebble on a bench that is not active counts 0
--     potential_bound      it is at most benches × pebbles
--     potential-drops      it drops with each move
use Prim.Native.Nat.{ℕ, ◌+◌, ◌-◌, ◌*◌, ◌≤◌, ◌<◌}
use mathlib.Core.Path.{◌≡◌, sym, subst}
use mathlib.Core.Bool.{true}
use mathlib.Core.Logic.{⊎_elim}
use native.Mathlib.Omega.{arith}
use Rattle.bools.proofs.OrderLaws.{eq-or-ne}
use Rattle.sums.specs.Sum.{on, sum, count}
use Rattle.sums.proofs.CountLaws.{sum-on-at_most}
use Rattle.sums.proofs.MoreSumLaws.{sum-on-gap}
use Rattle.algorithm.specs.Board.{Board}
use Rattle.algorithm.specs.Explore.{Explored}
use Rattle.algorithm.specs.Properties.{SoundBoard, lev, Facts}
use Rattle.algorithm.proofs.PushLaws.{Pushed, pushed_level}
use Rattle.algorithm.proofs.Levels.{rearranged, MoveOf, LevelsKept}

unfoldable pub potential : Board → Explored → ℕ
potential b x = sum b.jobs (λ j. on (b.pebble j) (b.benches - lev b x (b.place j)))

pub potential_bound : (b : Board) (x : Explored) → potential b x ≤ b.benches * count b.jobs b.pebble
unfolding potential
potential_bound b x = sum-on-at_most b.jobs b.pebble (λ j. b.benches - lev b x (b.place j)) b.benches (λ j h p. omega arith)

module _ (b : Board) (ok : SoundBoard b) (x : Explored) (facts : Facts b x) (a v* : ℕ) (ha : a < b.jobs) (hv : v* < b.benches) (push : Pushed b x a v*) where
  rearranged-drops : (own' place' : ℕ → ℕ) → MoveOf b (rearranged b own' place') a v* → (x' : Explored)
      → LevelsKept b x (rearranged b own' place') x' → potential (rearranged b own' place') x' < potential b x
  unfolding potential
  rearranged-drops own' place' move x' kept = omega (arith, sum-on-gap b.jobs b.pebble after before a 1 ha push.pebble less drop)
    where
      after : ℕ → ℕ
      after j = b.benches - lev (rearranged b own' place') x' (place' j)

      before : ℕ → ℕ
      before j = b.benches - lev b x (b.place j)

      drop : after a + 1 ≤ before a
      drop = rw move.place_moved (omega (arith, kept.levels v* hv, push.one_higher, pushed_level b ok x facts a v* ha hv push))

      less : (j : ℕ) → j < b.jobs → b.pebble j ≡ true → after j ≤ before j
      less j h p =
          ⊎_elim (λ e. rw e (omega (arith, drop)))
          (λ ne. rw (move.place_kept j h ne) (omega (arith, kept.levels (b.place j) (ok.allowed_below j (b.place j) h (ok.pebble_allowed j h p)))))
          (eq-or-ne j a)

  -- No level falls, so no pebble counts more than before; the pushed one lies one level higher.
  pub potential-drops : (b' : Board) → MoveOf b b' a v* → (x' : Explored) → LevelsKept b x b' x' → potential b' x' < potential b x
  potential-drops b' move x' kept =
      subst (λ (c : Board). MoveOf b c a v* → LevelsKept b x c x' → potential c x' < potential b x) (sym move.rest)
      (λ m k. rearranged-drops b'.own b'.place m x' k) move kept
