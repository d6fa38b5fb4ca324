-- The search for the best target (request S-4) on arrays: what it is lent, what it keeps and what it finds.
--     total_of n xs          the first n numbers together, and the greatest number where that does not fit
--     start_of ..            the same with the longest booking
--     head_at h t           the head with the target t
--     moves_in a            the moves of a plan; long and none both count as refused, and have none
--     LentSearch d h ..     a head and tables hold a day whatever its target; its start has 30 bits and gives a plan
--     plan_decided ..       a plan that was decided: its moves and places
--     half k                the middle of the two bounds, rounded down
--     lowered_to, raised_to  what is kept after a plan at the target t, and after a refusal of t
--     Searching d k         k is kept on the way of the search, and has the plan of its upper bound
--     Finds d r             r is what the search finds
use Rattle.std.specs.Prelude.{ℕ, ◌+◌, ◌-◌, ◌/◌, ◌^◌, ◌≤◌, ◌<◌, min, ◌≡◌, true, List, length, get_or, Option, Some, None}
use Rattle.sums.specs.Sum.{sum}
use Rattle.fields.specs.declared.sheet.Head.{Head}
use Rattle.day.specs.Day.{Day, with_target, start_target}
use Rattle.algorithm.specs.Best.{gives_plan, seek, searched, best_target, targets_run}
use Rattle.arrays.specs.Arrays.{plus_of}
use Rattle.loads.specs.BenchSum.{sum_of}
use Rattle.decisions.specs.declared.decision.Decision.{Decision}
use Rattle.decisions.specs.declared.decision.Decision.TheVariants.{Plan, Long, None as Refused}
use Rattle.decisions.specs.declared.decision.Decided.{Decided}
use Rattle.decisions.specs.Decision.{Lent, Decides}
use Rattle.searching.specs.declared.kept.Kept.{Kept}
use Rattle.searching.specs.declared.kept.Found.{Found}

-- ── the start ──

abbrev pub total_of : ℕ → List ℕ → ℕ
total_of n xs = min (sum n (λ i. get_or xs i 0)) 18446744073709551615

abbrev pub start_of : ℕ → ℕ → List ℕ → List ℕ → ℕ
start_of jobs benches minutes booked = plus_of (total_of jobs minutes) (sum_of benches booked).largest

-- ── what is lent ──

abbrev pub head_at : Head → ℕ → Head
head_at h t = record { benches = h.benches; p = h.p; q = h.q; target = t }

pub record LentSearch (d : Day) (h : Head) (jobs : ℕ) (minutes allowed booked : List ℕ) : Type 0 where
  pub start_fits : start_target d < 2 ^ 30
  pub start_planned : gives_plan d (start_target d) ≡ true
  pub at_any : (t : ℕ) → t < 2 ^ 30 → Lent (with_target d t) (head_at h t) jobs minutes allowed booked

-- ── what is kept, and what is found ──

abbrev pub moves_in : Decision → Option ℕ
moves_in (Plan p) = Some p.moves
moves_in (Long l) = None
moves_in (Refused n) = None

abbrev pub plan_decided : ℕ → List ℕ → Decided
plan_decided moves places = record { decision = Plan (record { moves = moves }); places = places }

abbrev pub half : Kept → ℕ
half k = k.low + (k.found.target - k.low) / 2

abbrev pub lowered_to : Kept → ℕ → ℕ → List ℕ → Kept
lowered_to k t moves places =
    record {
      low = k.low;
      found = record { target = t; runs = plus_of k.found.runs 1; moves = moves; places = places };
    }

abbrev pub raised_to : Kept → ℕ → Kept
raised_to k t =
    record {
      low = plus_of t 1;
      found = record {
        target = k.found.target;
        runs = plus_of k.found.runs 1;
        moves = k.found.moves;
        places = k.found.places;
      };
    }

pub record Searching (d : Day) (k : Kept) : Type 0 where
  pub tried : List ℕ
  pub counted : k.found.runs ≡ length tried
  pub in_order : k.low ≤ k.found.target
  pub from_start : k.found.target ≤ start_target d
  pub goes_on : searched d ≡ seek (k.found.target - k.low) d
      (record { low = k.low; high = k.found.target; tried = tried })
  pub planned : Decides (with_target d k.found.target) (plan_decided k.found.moves k.found.places)

pub record Finds (d : Day) (r : Found) : Type 0 where
  pub target_is : r.target ≡ best_target d
  pub runs_are : r.runs ≡ targets_run d
  pub planned : Decides (with_target d (best_target d)) (plan_decided r.moves r.places)
