-- What is decided of a day, and what is lent for it (document 01, "The three answers").
--     decision_of d o     an outcome of the run as a decision: each case with its values
--     places_in o         the places of an outcome: a plan has them, no other has
--     Lent d h ..         a head and tables hold an accepted day: its jobs' minutes and allowed benches, booked minutes
--     Decides d r         r is what the run decides of the day, with its places
use Rattle.std.specs.Prelude.{ℕ, ◌<◌, ◌≡◌, List, [], length, get_or}
use Rattle.sums.specs.Members.{members}
use Rattle.fields.specs.declared.sheet.Head.{Head}
use Rattle.day.specs.Day.{Day}
use Rattle.answers.specs.Answers.{set_of}
use Rattle.algorithm.specs.SoundDay.{AcceptedDay}
use Rattle.algorithm.specs.Run.{Outcome, planned, long, blocked, run}
use Rattle.start.specs.StartArrays.{Fields}
use Rattle.decisions.specs.declared.decision.Decision.{Decision}
use Rattle.decisions.specs.declared.decision.Decision.TheVariants.{Plan, Long, None}
use Rattle.decisions.specs.declared.decision.PlanMoves.{PlanMoves}
use Rattle.decisions.specs.declared.decision.Decided.{Decided}

abbrev pub decision_of : Day → Outcome → Decision
decision_of d (planned places moves) = Plan (record { moves = moves })
decision_of d (long j) = Long (record { job = j })
decision_of d (blocked set moves) = None (record { set = set_of (members d.benches set); moves = moves })

abbrev pub places_in : Outcome → List ℕ
places_in (planned places moves) = places
places_in (long j) = []
places_in (blocked set moves) = []

pub record Lent (d : Day) (h : Head) (jobs : ℕ) (minutes allowed booked : List ℕ) : Type 0 where
  pub accepted : AcceptedDay d
  pub fields : Fields d jobs minutes allowed
  pub benches_are : h.benches ≡ d.benches
  pub p_is : h.p ≡ d.p
  pub q_is : h.q ≡ d.q
  pub target_is : h.target ≡ d.target
  pub booked_are : (v : ℕ) → v < d.benches → get_or booked v 0 ≡ d.booked v

pub record Decides (d : Day) (r : Decided) : Type 0 where
  pub decision : r.decision ≡ decision_of d (run d)
  pub places : (j : ℕ) → j < d.jobs → get_or r.places j 0 ≡ get_or (places_in (run d)) j 0
  -- A plan has a place for each job.
  pub one_to_a_job : (p : PlanMoves) → r.decision ≡ Plan p → length (places_in (run d)) ≡ d.jobs
