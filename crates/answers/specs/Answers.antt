-- The answers of the planner and what they leave in both tables (document 01, "The three answers").
--     one_of bs                the set of the benches that a list names
--     set_of bs               the same as a number: bench b is the bit of weight 2 ^ (63 − b)
--     Reply                   an answer, with the numbers at the front of both tables: a plan has them, no other does
--     unwritten a             an answer that leaves both tables as they were
--     plan_reply, long_reply, none_reply, fault_reply  each with the values that the paper gives it
--     is_plan a, is_long a    the answer is a plan; it is long
--     Case, case_of            the number of an answer, and its values
--     front xs before         a table after xs were put at its front
--     Answered                what a call answers, and what it leaves in both tables
use Rattle.std.specs.Prelude.{ℕ, ◌+◌, ◌-◌, ◌^◌, ◌≡◌, Bool, true, false, List, [], ◌∷◌, ◌++◌, length, get_or, drop, eqb}
use Rattle.sums.specs.Search.{any}
use Rattle.fields.specs.declared.fault.Fault.{Fault}
use Rattle.fields.specs.Numbers.{number_of, place_of}
use Rattle.answers.specs.declared.answer.Answer.{Answer}
use Rattle.answers.specs.declared.answer.Answer.TheVariants.{Plan, Long, None, Fault as Faulty}
use Rattle.answers.specs.declared.answer.PlanAnswer.{PlanAnswer}
use Rattle.answers.specs.declared.answer.Filled.{Filled}

abbrev pub one_of : List ℕ → ℕ → Bool
one_of bs v = any (length bs) (λ i. eqb (get_or bs i 0) v)

unfoldable pub set_of : List ℕ → ℕ
set_of [] = 0
set_of (b ∷ bs) = 2 ^ (63 - b) + set_of bs

-- ── replies ──

pub record Reply : Type 0 where
  pub answer : Answer
  pub places : List ℕ
  pub loads : List ℕ

-- "Plan: the largest load, and the moves made. Entry j of the first table is job j's bench, entry b of the second is
-- bench b's load"; by request S-2 it carries the fullest bench too.
abbrev pub plan_reply : PlanAnswer → List ℕ → List ℕ → Reply
plan_reply p places loads = record { answer = Plan p; places = places; loads = loads }

-- "Tables untouched."
abbrev pub unwritten : Answer → Reply
unwritten a = record { answer = a; places = []; loads = [] }

-- "Long: the lowest job with more than T minutes."
abbrev pub long_reply : ℕ → Reply
long_reply j = unwritten (Long (record { job = j }))

-- "None: a blocking set and the moves made."
abbrev pub none_reply : List ℕ → ℕ → Reply
none_reply benches moves = unwritten (None (record { set = set_of benches; moves = moves }))

abbrev pub fault_reply : Fault → Reply
fault_reply f = unwritten (Faulty f)

abbrev pub is_plan : Answer → Bool
is_plan (Plan p) = true
is_plan (Long l) = false
is_plan (None n) = false
is_plan (Faulty f) = false

abbrev pub is_long : Answer → Bool
is_long (Plan p) = false
is_long (Long l) = true
is_long (None n) = false
is_long (Faulty f) = false

-- ── number and values of each case ──

pub record Case : Type 0 where
  pub number : ℕ
  pub values : List ℕ

-- 1 plan, 2 long, 3 none, each with three values; a fault has its own number and its place.
abbrev pub case_of : Answer → Case
case_of (Plan p) = record { number = 1; values = p.largest ∷ p.moves ∷ p.fullest ∷ [] }
case_of (Long l) = record { number = 2; values = l.job ∷ 0 ∷ 0 ∷ [] }
case_of (None n) = record { number = 3; values = n.set ∷ n.moves ∷ 0 ∷ [] }
case_of (Faulty f) = record { number = number_of f; values = place_of f ∷ [] }

-- ── tables ──

-- "later entries keep their contents"
abbrev pub front : List ℕ → List ℕ → List ℕ
front xs before = xs ++ drop (length xs) before

pub record Answered (a : Reply) (r : Filled) (places loads places' loads' : List ℕ) : Type 0 where
  pub answer : r.answer ≡ a.answer
  pub places_written : r.places ≡ length a.places
  pub loads_written : r.loads ≡ length a.loads
  pub new_places : places' ≡ front a.places places
  pub new_loads : loads' ≡ front a.loads loads
