-- What one exploration leaves behind: all of E1 to E9.
--     explored_facts      the facts of an exploration, from the laws of FORCED ORIENTATIONS
use mathlib.Core.Logic.{inl, inr, ⊎_elim}
use native.Mathlib.Omega.{arith}
use Rattle.algorithm.specs.Board.{Board}
use Rattle.algorithm.specs.Explore.{explore}
use Rattle.algorithm.specs.Properties.{SoundBoard, Facts}
use Rattle.algorithm.proofs.ForcedInterface.{ForcedLaws}
use Rattle.algorithm.proofs.RoundLaws.{Between}
use Rattle.algorithm.proofs.BorderLaws.{explored_between, explored_border, explored_directed}
use Rattle.algorithm.proofs.OverloadLaws.{explored_overloads, explored_cause, explored_unforced}
use Rattle.algorithm.proofs.Agreement.{explored_outside}
use Rattle.algorithm.proofs.JoinLaws.{explored_caused}
use Rattle.algorithm.proofs.LevelLaws.{explored_joined_first, explored_rules, explored_next}
use Rattle.algorithm.proofs.RankLaws.{Ranked, explored_ranked}

pub explored_facts : (b : Board) → SoundBoard b → ForcedLaws b → Facts b (explore b)
explored_facts b ok laws =
    record {
      pointed = between.pointed;
      joined_length = between.joined_length;
      level_length = between.level_length;
      border = explored_border b ok laws;
      conflict_directed = explored_directed b ok laws;
      overloaded_level = λ v h over. (explored_overloads b ok laws v h over).1;
      overloaded_cause = explored_cause b ok laws;
      neutral_unforced = explored_unforced b ok laws;
      safe_outside = explored_outside b ok laws;
      joined_cause = λ v h f. ⊎_elim (λ c. inl c.0) inr (explored_caused b ok laws v h f);
      joined_by = λ v h f. ⊎_elim (λ c. inl c.1) inr (explored_caused b ok laws v h f);
      rule_one = (explored_rules b ok laws).one;
      rule_two = (explored_rules b ok laws).two;
      rank = ranked.rank;
      level_cause = ranked.cause;
      next_level = explored_next b ok laws;
      joined_first = explored_joined_first b ok laws;
      joined_bound = λ v h. ⊎_elim (λ q. omega (arith, between.in_time)) (λ q. omega arith) (between.joined_before.before v h);
      level_bound = λ v h. ⊎_elim (λ q. omega (arith, between.in_time)) (λ q. omega arith) (between.level_before.before v h);
      level_below = λ v h f. ⊎_elim (λ q. omega (arith, between.in_time)) (λ q. absurd (omega arith)) (between.level_before.before v h);
    }
  where
    between : Between b (explored_between b ok laws).0 (explore b)
    between = (explored_between b ok laws).1

    ranked : Ranked b (explore b).dir (explore b).joined (explore b).level
    ranked = explored_ranked b ok laws
