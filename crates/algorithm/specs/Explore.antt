-- EXPLORE2 (figure 4.6): the conflict set ℂ, the activated set 𝔸 and the levels.
--     Explored                directions, and for each bench the round in which it joined ℂ, and its level
--     never, round_of, within  no round; the round of a bench; it has one
--     in_conflict, activated  v ∈ ℂ, v ∈ 𝔸
--     father, child           a rock from v to a bench of ℂ, and from one to v
--     joins, conflict_set     who joins ℂ, and the loop
--     fake                    a neutral rock at a bench of ℂ
--     Constructed, construct  (Conflict set construction)
--     critical_by, critical   Rule 1: v is critical, by rock j or by some rock
--     linked_by, rule2        Rule 2, by rock j or by some rock
--     activates, activate     (Activation of nodes)
--     in_reach, type_a        who opens a round
--     opened_levels, opened_joined, open_round    how a round begins, and the round
--     rounds, unexplored, explore                 all rounds
use Rattle.std.specs.Prelude.{ℕ, zero, suc, ◌+◌, Bool, true, false, cond, not, ◌&&◌, ◌||◌, List, get_or, set, replicate, eqb, ltb}
use Rattle.sums.specs.Search.{any, least}
use Rattle.sums.specs.Table.{table}
use Rattle.algorithm.specs.Board.{Board, Directions, touches, other, neutral, towards, away, overloaded}
use Rattle.algorithm.specs.Forced.{direct, forced_orientations}

-- Directions, and for each bench the round in which it joined the conflict set and its level.
pub record Explored : Type 0 where
  pub dir : Directions
  pub joined : List ℕ
  pub level : List ℕ

-- "In no round": one more than there are benches.
abbrev pub never : Board → ℕ
never b = suc b.benches

-- The round that a list gives for a bench.
abbrev pub round_of : Board → List ℕ → ℕ → ℕ
round_of b xs v = get_or xs v (never b)

abbrev pub within : Board → List ℕ → ℕ → Bool
within b xs v = ltb (round_of b xs v) (never b)

-- "v ∈ ℂ", "v ∈ 𝔸"
abbrev pub in_conflict : Board → Explored → ℕ → Bool
in_conflict b x v = within b x.joined v

abbrev pub activated : Board → Explored → ℕ → Bool
activated b x v = within b x.level v

-- Rock j leads from v to a bench of the set: a father's edge.
abbrev pub father : Board → Directions → (ℕ → Bool) → ℕ → ℕ → Bool
father b dir conflict v j = away b dir j v && conflict (other b j v)

-- Rock j leads from a bench of the set to v: a child's edge.
abbrev pub child : Board → Directions → (ℕ → Bool) → ℕ → ℕ → Bool
child b dir conflict v j = touches b j v && towards dir j v && conflict (other b j v)

-- "v ∉ ℂ with a father u ∈ ℂ"
abbrev pub joins : Board → Directions → List ℕ → ℕ → Bool
joins b dir joined v = not (within b joined v) && any b.jobs (father b dir (within b joined) v)

-- "While ∃ v ∉ ℂ with a father u ∈ ℂ: …", the lowest first.
unfoldable pub conflict_set : ℕ → Board → ℕ → Directions → List ℕ → List ℕ
conflict_set zero b i dir joined = joined
conflict_set (suc k) b i dir joined =
    let v : ℕ = least b.benches (joins b dir joined) in
    elim (ltb v b.benches) [ false ↦ joined | true ↦ conflict_set k b i dir (set joined v i) ]

-- "∃ neutral vu with v ∈ ℂ"
abbrev pub fake : Board → Directions → List ℕ → ℕ → ℕ → Bool
fake b dir joined v j = within b joined v && touches b j v && neutral dir j

pub record Constructed : Type 0 where
  pub dir : Directions
  pub joined : List ℕ

-- "(Conflict set construction)": each fake orientation directs a rock, so there are at most as many as jobs.
unfoldable pub construct : ℕ → Board → ℕ → Directions → List ℕ → Constructed
construct zero b i dir joined = record { dir = dir; joined = conflict_set b.benches b i dir joined }
construct (suc k) b i dir joined =
    let closed : List ℕ = conflict_set b.benches b i dir joined in
    let v : ℕ = least b.benches (λ v. any b.jobs (fake b dir closed v)) in
    let j : ℕ = least b.jobs (fake b dir closed v) in
    elim (ltb v b.benches) [
      | false ↦ record { dir = dir; joined = closed }
      | true ↦ construct k b i (forced_orientations b (direct b dir v j)) closed
    ]

-- "a node v ∈ ℂ is critical if there exists u ∈ F(v) such that dl(v) + pl(v) + w_vu > (5/3 + β/3)t"; Rule 1 activates
-- critical nodes.
abbrev pub critical_by : Board → Directions → List ℕ → ℕ → ℕ → Bool
critical_by b dir joined v j = father b dir (within b joined) v j && ltb b.bound (b.own v + b.weight j)

abbrev pub critical : Board → Directions → List ℕ → ℕ → Bool
critical b dir joined v = any b.jobs (critical_by b dir joined v)

-- "Rule 2: ∃ u ∈ 𝔸 ∩ (D(v) ∪ F(v)), such that w_vu < (2/3 + β/3)t"
abbrev pub linked_by : Board → Directions → List ℕ → List ℕ → ℕ → ℕ → Bool
linked_by b dir joined level v j =
    (father b dir (within b joined) v j || child b dir (within b joined) v j)
    && within b level (other b j v) && ltb (b.weight j) b.small

abbrev pub rule2 : Board → Directions → List ℕ → List ℕ → ℕ → Bool
rule2 b dir joined level v = any b.jobs (linked_by b dir joined level v)

-- A bench of ℂ that is not activated and meets a rule.
abbrev pub activates : Board → Directions → List ℕ → List ℕ → ℕ → Bool
activates b dir joined level v =
    within b joined v && not (within b level v) && (critical b dir joined v || rule2 b dir joined level v)

-- "(Activation of nodes)"
unfoldable pub activate : ℕ → Board → ℕ → Directions → List ℕ → List ℕ → List ℕ
activate zero b i dir joined level = level
activate (suc k) b i dir joined level =
    let v : ℕ = least b.benches (activates b dir joined level) in
    elim (ltb v b.benches) [ false ↦ level | true ↦ activate k b i dir joined (set level v i) ]

-- "v is reachable from 𝔸_{i−1}": a pebble on a bench of the level before may go to v.
abbrev pub in_reach : Board → ℕ → List ℕ → ℕ → Bool
in_reach b i level v =
    any b.jobs (λ j. b.pebble j && b.allows j v && eqb (suc (round_of b level (b.place j))) i)

-- "If i = 0: 𝔸_i := {v | v is overloaded}. Else 𝔸_i := {v | v ∉ 𝔸, v is reachable from 𝔸_{i−1}}."
abbrev pub type_a : Board → ℕ → Explored → ℕ → Bool
type_a b zero x v = overloaded b x.dir v
type_a b (suc i) x v = not (activated b x v) && in_reach b (suc i) x.level v

-- "ℂ_i := 𝔸_i; 𝔸 := 𝔸 ∪ 𝔸_i; ℂ := ℂ ∪ ℂ_i"
abbrev pub opened_levels : Board → ℕ → Explored → List ℕ
opened_levels b i x = table b.benches (λ v. cond (type_a b i x v) i (round_of b x.level v))

abbrev pub opened_joined : Board → ℕ → Explored → List ℕ
opened_joined b i x =
    table b.benches (λ v. cond (type_a b i x v && not (in_conflict b x v)) i (round_of b x.joined v))

-- Then the two sub-procedures.
unfoldable pub open_round : Board → ℕ → Explored → Explored
open_round b i x =
    let c : Constructed = construct b.jobs b i x.dir (opened_joined b i x) in
    record {
      dir = c.dir;
      joined = c.joined;
      level = activate b.benches b i c.dir c.joined (opened_levels b i x);
    }

-- "If 𝔸_i = ∅: stop." Each round activates a bench.
unfoldable pub rounds : ℕ → Board → ℕ → Explored → Explored
rounds zero b i x = x
rounds (suc k) b i x =
    elim (any b.benches (type_a b i x)) [ false ↦ x | true ↦ rounds k b (suc i) (open_round b i x) ]

-- "Initialize 𝔸 := ∅; ℂ := ∅; i := 0. Call FORCED ORIENTATIONS."
abbrev pub unexplored : Board → Explored
unexplored b =
    record {
      dir = forced_orientations b (replicate b.jobs 0);
      joined = replicate b.benches (never b);
      level = replicate b.benches (never b);
    }

unfoldable pub explore : Board → Explored
explore b = rounds (suc b.benches) b 0 (unexplored b)
