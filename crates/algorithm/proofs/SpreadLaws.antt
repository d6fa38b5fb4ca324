-- Settling the rocks left after peeling, where no component is crowded.
--     settle_left    settle directs every rock that is left, and gives each bench at most one of the neutral ones
--     settled_all d, spread_of d    the rule for neutral rocks, run where all rocks are neutral; as a function to benches
--     spread         it gives each rock one of its ends, and no bench two rocks; on the board of every state with the same rocks left
use Prim.Native.Nat.{ℕ, suc, ◌-◌, ◌<◌}
use mathlib.Core.Path.{◌≡◌, refl, sym, ◌∙◌, subst}
use mathlib.Core.Logic.{◌⊎◌, inl, inr}
use mathlib.Core.Bool.{true, false}
use native.Mathlib.Omega.{arith}
use lib.ListN.{get_or, replicate, get_or-replicate}
use borrow.Author.Tests.{eq-eqb, eqb-false}
use Rattle.day.specs.Day.{Day, pebble}
use Rattle.algorithm.specs.Rocks.{lowest, highest}
use Rattle.algorithm.specs.Board.{Board, Directions, touches}
use Rattle.algorithm.specs.Settle.{settle}
use Rattle.algorithm.specs.Start.{State, start}
use Rattle.algorithm.specs.Run.{board_of}
use Rattle.algorithm.specs.Properties.{Pointed, Received, Spread}
use Rattle.algorithm.specs.SoundDay.{SoundDay, Uncrowded}
use Rattle.algorithm.proofs.BoardLaws.{touches-low, touches-high, pointed_start}
use Rattle.algorithm.proofs.Peeling.{start-allowed}
use Rattle.algorithm.proofs.BoardSound.{board_sound}
use Rattle.algorithm.proofs.ChainLemma.{one_each}
use Rattle.algorithm.proofs.SettleLaws.{Settled, settle-one_each}

abbrev all_neutral : Day → Directions
all_neutral d = replicate d.jobs 0

unfoldable pub settled_all : Day → Directions
settled_all d = settle (board_of d (start d)) (all_neutral d)

unfoldable pub spread_of : Day → ℕ → ℕ
spread_of d j = get_or (settled_all d) j 0 - 1

module _ (d : Day) (sound : SoundDay d) (free : Uncrowded d) where
  pub settle_left : (s : State) → s.left ≡ (start d).left → ((j : ℕ) → j < d.jobs → pebble d j ≡ true → d.allows j (get_or s.place j 0) ≡ true)
      → (dir : Directions) → Pointed (board_of d s) dir → Settled (board_of d s) dir (settle (board_of d s) dir)
  settle_left s same places dir pointed =
      settle-one_each (board_of d s) (board_sound d sound s same places) (one_each d sound free s same) dir pointed

  abbrev board : Board
  board = board_of d (start d)

  all_settled : Settled board (all_neutral d) (settled_all d)
  unfolding settled_all
  all_settled = settle_left (start d) refl (λ j h p. start-allowed d sound j h) (all_neutral d) (pointed_start board)

  module _ (j : ℕ) (h : j < d.jobs) (l : get_or (start d).left j false ≡ true) where
    directed : get_or (settled_all d) j 0 ≡ suc (spread_of d j)
    unfolding spread_of
    directed = omega (arith, eqb-false (get_or (settled_all d) j 0) 0 (all_settled.all_directed j h l))

    to_an_end : (spread_of d j ≡ lowest d j) ⊎ (spread_of d j ≡ highest d j)
    to_an_end = elim (all_settled.pointed.to_an_end j h l) [
      | inl e ↦ absurd (omega (arith, directed))
      | inr ends ↦ elim ends [ inl e ↦ inl (omega (arith, directed)) | inr e ↦ inr (omega (arith, directed)) ]
    ]

    received : (x : ℕ) → spread_of d j ≡ x → Received board (all_neutral d) (settled_all d) x j
    received x e = (
      h,
      elim to_an_end [
        | inl q ↦ subst (λ (k : ℕ). touches board j k ≡ true) (sym q ∙ e) (touches-low board j l)
        | inr q ↦ subst (λ (k : ℕ). touches board j k ≡ true) (sym q ∙ e) (touches-high board j l)
      ],
      eq-eqb (get_or (all_neutral d) j 0) 0 (get_or-replicate d.jobs j 0 0 h),
      eq-eqb (get_or (settled_all d) j 0) (suc x) (omega (arith, directed)),
    )

  pub spread : (s : State) → s.left ≡ (start d).left → Spread (board_of d s) (spread_of d)
  spread s same =
      record {
        orientation = λ j h l. to_an_end j h (rw same at l);
        one_each = λ e f he hf le lf q.
            all_settled.once (spread_of d f) e f (received e he (rw same at le) (spread_of d f) q) (received f hf (rw same at lf) (spread_of d f) refl);
      }
