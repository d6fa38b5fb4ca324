-- Request S-6: "Our own plans and sets for the same sheet and target always pass." The sets.
--     own_set_passes        the set of a none is passed; of whatever call the demand holds
--     own_set_answered      the same of a call of the planner, by its equation
--     own_set_on_a_page     so a page with this set alone is passed (request S-7)
use Prim.Native.Nat.{ℕ}
use mathlib.Core.Path.{◌≡◌, subst}
use mathlib.Core.List.{List, [], ◌∷◌}
use lib.ListN.{length}
use Rattle.sums.proofs.CountLaws.{count-pos_elim}
use Rattle.fields.specs.Contents.{Contents}
use Rattle.day.specs.Day.{day_of}
use Rattle.answers.specs.declared.answer.Answer.{Answer}
use Rattle.answers.specs.declared.answer.Answer.TheVariants.{None}
use Rattle.answers.specs.declared.answer.Filled.{Filled}
use Rattle.answers.specs.declared.answer.NoneAnswer.{NoneAnswer}
use Rattle.answers.specs.declared.check.SetAnswer.TheVariants.{Passed}
use Rattle.answers.specs.declared.check.PageAnswer.TheVariants.{Passed as PagePassed}
use Rattle.answers.specs.Answers.{Answered}
use Rattle.algorithm.specs.Answer.{answer_for}
use Rattle.blocking.specs.Claim.{Answerable, a_none, in_set, PlannerClaim}
use Rattle.blocking.proofs.Claim.{answered_claim, answered_room}
use Rattle.set_check.specs.SetCheck.{check_set}
use Rattle.set_check.specs.SetClaim.{Judged}
use Rattle.set_check.proofs.SetLaws.{judged_passed}
use Rattle.page_check.specs.PageCheck.{check_page}
use Rattle.page_check.proofs.SingleSets.{page_of_one}

module _ (s places loads : List ℕ) where
  pub own_set_passes : {r : Answer} {places' loads' : List ℕ} → PlannerClaim s places loads r places' loads'
      → (c : Contents) → Answerable s places loads c → (n : NoneAnswer) → r ≡ None n
      → check_set s n.set ≡ Passed
  own_set_passes claim c can n none =
      let (named, kept) = claim.none_right c can n none in
      let (v, below, inside) =
      count-pos_elim (day_of c).benches (in_set n.set) named.blocking.some_bench in
      let judged : Judged s n.set c =
      record {
        sheet_accepted = can.sheet_accepted;
        some_bench = (v, inside);
        of_the_head = named.of_the_head;
      } in
      judged_passed s n.set c judged (claim.none_fits c can n none) named.blocking

  pub own_set_answered : {r : Filled} {places' loads' : List ℕ}
      → Answered (answer_for s (length places) (length loads)) r places loads places' loads'
      → (n : NoneAnswer) → r.answer ≡ None n → check_set s n.set ≡ Passed
  own_set_answered {r} {places'} {loads'} called n none =
      let claim = answered_claim s places loads r places' loads' called in
      let (c, can) =
      answered_room (subst (λ (a : Answer). PlannerClaim s places loads a places' loads') none claim) (a_none n) in
      own_set_passes claim c can n none

  pub own_set_on_a_page : {r : Answer} {places' loads' : List ℕ} → PlannerClaim s places loads r places' loads'
      → (c : Contents) → Answerable s places loads c → (n : NoneAnswer) → r ≡ None n
      → check_page s (n.set ∷ []) ≡ PagePassed
  own_set_on_a_page claim c can n none =
      page_of_one s n.set c can.sheet_accepted (own_set_passes claim c can n none)
