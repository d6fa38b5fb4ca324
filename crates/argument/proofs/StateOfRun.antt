-- What the argument asks of the states of a run, from the theorems about the rock graph.
--     good_state         a good state is sound: rocks left are rocks, every other job lies on one of its benches
--     good_peeled        every placement has each peeled rock where the state has it
--     unplaceable        with a crowded component there is no placement
--     good_settled       the rule for neutral rocks directs them all, no bench receiving two
use Prim.Native.Nat.{ℕ}
use mathlib.Core.Path.{◌≡◌, sym, ap, ◌∙◌}
use mathlib.Core.Logic.{⊎_elim}
use mathlib.Core.Bool.{Bool, true, false}
use mathlib.Core.List.{List}
use lib.ListN.{get_or}
use lib.Dec.{leb}
use borrow.Author.Tests.{eqb-false}
use Rattle.bools.proofs.BoolLaws.{split, and-false_left, not_intro_false}
use Rattle.day.specs.Day.{Day, pebble, choices}
use Rattle.algorithm.specs.Rocks.{rock}
use Rattle.algorithm.specs.Start.{State, start}
use Rattle.algorithm.specs.Run.{board_of, explored}
use Rattle.algorithm.specs.SoundDay.{SoundDay, Uncrowded, RockPlacement}
use Rattle.demand.specs.Demand.{Placement}
use Rattle.algorithm.proofs.RockLaws.{rock-heavy}
use Rattle.algorithm.proofs.Peeling.{start-allowed, start_left_rock, start-forced, crowded-no_placement}
use Rattle.algorithm.proofs.SpreadLaws.{settle_left}
use Rattle.algorithm.proofs.Moves.{Good}
use Rattle.algorithm.proofs.DayFacts.{good_facts}
use Rattle.argument.specs.RunFacts.{SoundState, PeeledPlaced, CrowdedUnplaceable, Settled}
use Rattle.argument.proofs.PlanBound.{plan_directions}

module _ (d : Day) (sound : SoundDay d) where
  rocks_placed : (place : ℕ → ℕ) → Placement d place → RockPlacement d place
  rocks_placed place p =
      record {
        allowed = λ j h r. p.on_allowed j h (rock-heavy d j r);
        one_each = λ i j hi hj ri rj e. p.one_to_a_bench i j hi hj (rock-heavy d i ri) (rock-heavy d j rj) e;
      }

  pub unplaceable : CrowdedUnplaceable d
  unplaceable v h full place p = crowded-no_placement d sound v full place (rocks_placed place p)

  module _ (s : State) (good : Good d s) where
    left_same : (j : ℕ) → get_or s.left j false ≡ get_or (start d).left j false
    left_same j = ap (λ (xs : List Bool). get_or xs j false) good.left_kept

    pub good_state : SoundState d s
    good_state =
        record {
          left_rock = λ j h r. start_left_rock d sound j h (sym (left_same j) ∙ r);
          place_allowed = λ j h r.
              ⊎_elim (good.pebble_allowed j h) (λ no. rw (good.others_kept j h no) (start-allowed d sound j h)) (split (pebble d j));
        }

    rock-no-pebble : (j : ℕ) → rock d j ≡ true → pebble d j ≡ false
    rock-no-pebble j r = and-false_left (leb 2 (choices d j)) (not_intro_false (rock-heavy d j r))

    pub good_peeled : PeeledPlaced d s
    good_peeled place p j h r peeled =
        start-forced d sound place (rocks_placed place p) j h r (sym (left_same j) ∙ peeled)
        ∙ sym (good.others_kept j h (rock-no-pebble j r))

    pub good_settled : Uncrowded d → Settled (board_of d s) (explored d s).dir (plan_directions d s)
    good_settled fits =
        let all = settle_left d sound fits s good.left_kept good.pebble_allowed (explored d s).dir (good_facts d sound fits s good).pointed in
        record {
          directed = λ j h r.
              ⊎_elim (λ z. absurd (eqb-false (get_or (plan_directions d s) j 0) 0 (all.all_directed j h r) z)) (λ ends. ends) (all.pointed.to_an_end j h r);
          kept = λ j h n. all.kept j n;
          one_each = λ e f v he hf te tf ne nf to-e to-f. all.once v e f (he, te, ne, to-e) (hf, tf, nf, to-f);
        }
