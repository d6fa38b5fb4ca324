-- The procedure for the least weight of a placement inside a set of benches. It takes the heavy jobs one by one, in job
-- order, and keeps the benches in classes. Each heavy job has two ends, the benches that it may go to, or one bench as
-- both. In an open class the jobs taken so far leave exactly one bench free, whichever of them it is to be; a shut
-- class has none left.
--     Heavies            which jobs are heavy, their ends and weights, and the set
--     cost g j b         what job j weighs inside the set where it is put on bench b
--     Classes            the label of each bench's class, whether it is shut, how much more it costs that this bench is
--                        the free one of its class (`extra`), and what the cheapest choice costs (`base`)
--     at_start            every bench is a class of its own
--     price_low, price_high  what the lower and the higher end would cost job i
--     to_low s i         job i goes to the lower end in the cheapest choice
--     taken s i          the end that it takes there, and `paid` its price
--     stuck_at s i       both ends are shut: there is no placement
--     closes s i         job i takes the last free bench of a class
--     closed, joined     the classes after a job that closes one, and after one that makes one class of two
--     Tried, put_job     the classes so far, or that there is no placement; the same with one job more
--     after g i          what the first i jobs come to
--     least_of g n       the answer for n jobs
use Rattle.std.specs.Prelude.{ℕ, zero, suc, ◌+◌, ◌-◌, Bool, true, false, not, cond, ◌&&◌, ◌||◌, eqb, leb}
use Rattle.sums.specs.Sum.{on}
use Rattle.std.specs.Prelude.{Option, None, Some}

pub record Heavies : Type 0 where
  pub heavy : ℕ → Bool
  pub low : ℕ → ℕ
  pub high : ℕ → ℕ
  pub weight : ℕ → ℕ
  pub inside : ℕ → Bool

abbrev pub cost : Heavies → ℕ → ℕ → ℕ
cost g j b = on (g.inside b) (g.weight j)

pub record Classes : Type 0 where
  pub label : ℕ → ℕ
  pub shut : ℕ → Bool
  pub extra : ℕ → ℕ
  pub base : ℕ

abbrev pub at_start : Classes
at_start = record { label = λ b. b; shut = λ b. false; extra = λ b. 0; base = 0 }

-- ── one heavy job ──

module _ (g : Heavies) (s : Classes) (i : ℕ) where
  abbrev pub price_low : ℕ
  price_low = s.extra (g.low i) + cost g i (g.low i)

  abbrev pub price_high : ℕ
  price_high = s.extra (g.high i) + cost g i (g.high i)

  -- The cheaper one of the open ends, the lower one where both cost the same.
  unfoldable pub to_low : Bool
  to_low = not (s.shut (g.low i)) && (s.shut (g.high i) || leb price_low price_high)

  abbrev pub taken : ℕ
  taken = cond to_low (g.low i) (g.high i)

  abbrev pub paid : ℕ
  paid = cond to_low price_low price_high

  abbrev pub stuck_at : Bool
  stuck_at = s.shut (g.low i) && s.shut (g.high i)

  -- One end is shut, or both are in one class.
  abbrev pub closes : Bool
  closes = (s.shut (g.low i) || s.shut (g.high i)) || eqb (s.label (g.low i)) (s.label (g.high i))

  abbrev pub closed : Classes
  closed =
      record {
        label = s.label;
        shut = λ b. s.shut b || eqb (s.label b) (s.label taken);
        extra = s.extra;
        base = s.base + paid;
      }

  -- The job goes to the one of the two classes whose free bench is given up.
  abbrev pub raised : ℕ → ℕ
  raised b =
      cond (eqb (s.label b) (s.label (g.low i))) (price_high - paid)
      (cond (eqb (s.label b) (s.label (g.high i))) (price_low - paid) 0)

  abbrev pub relabelled : ℕ → ℕ
  relabelled b = cond (eqb (s.label b) (s.label (g.high i))) (s.label (g.low i)) (s.label b)

  abbrev pub joined : Classes
  joined =
      record {
        label = relabelled;
        shut = s.shut;
        extra = λ b. s.extra b + raised b;
        base = s.base + paid;
      }

  unfoldable pub placed : Classes
  placed = cond closes closed joined

-- ── all heavy jobs ──

pub data Tried : Type 0 where
  stuck : Tried
  going : Classes → Tried

unfoldable pub put_job : Heavies → Tried → ℕ → Tried
put_job g stuck i = stuck
put_job g (going s) i = cond (g.heavy i) (cond (stuck_at g s i) stuck (going (placed g s i))) (going s)

unfoldable pub after : Heavies → ℕ → Tried
after g zero = going at_start
after g (suc i) = put_job g (after g i) i

abbrev pub answer_of : Tried → Option ℕ
answer_of stuck = None
answer_of (going s) = Some s.base

unfoldable pub least_of : Heavies → ℕ → Option ℕ
least_of g n = answer_of (after g n)
