-- Unions of sets of benches (request S-7). A set is a function to Bool, as in crates/demand; several sets are numbered
-- from 0.
--     union S R             the benches that are in one of the two sets
--     Disjoint S R          no bench is in both
--     union_of n sets       the benches that are in one of the first n sets
--     NoneShared n sets     no two of the first n sets share a bench
--     Grouping              a way to join numbered sets two at a time, in any order and grouping
--     joined sets g         the union that is joined so
--     names g i             set i is among those that are joined
--     EachHasBench d        every job of the day has a bench, as on every accepted sheet (fault 11)
use Rattle.std.specs.Prelude.{ℕ, ◌<◌, ◌≡◌, Bool, true, ◌||◌, eqb}
use Rattle.sums.specs.Search.{any}
use Rattle.day.specs.Day.{Day}

abbrev pub union : (ℕ → Bool) → (ℕ → Bool) → ℕ → Bool
union S R v = S v || R v

abbrev pub Disjoint : (ℕ → Bool) → (ℕ → Bool) → Type 0
Disjoint S R = (v : ℕ) → S v ≡ true → R v ≡ true → ⊥

abbrev pub union_of : ℕ → (ℕ → ℕ → Bool) → ℕ → Bool
union_of n sets v = any n (λ i. sets i v)

-- "no two share a bench"
abbrev pub NoneShared : ℕ → (ℕ → ℕ → Bool) → Type 0
NoneShared n sets = (i k : ℕ) → i < k → k < n → Disjoint (sets i) (sets k)

-- "the same in any order and grouping"
pub data Grouping : Type 0 where
  one : ℕ → Grouping
  join : Grouping → Grouping → Grouping

abbrev pub joined : (ℕ → ℕ → Bool) → Grouping → ℕ → Bool
joined sets (one i) v = sets i v
joined sets (join g h) v = union (joined sets g) (joined sets h) v

abbrev pub names : Grouping → ℕ → Bool
names (one k) i = eqb i k
names (join g h) i = names g i || names h i

abbrev pub EachHasBench : Day → Type 0
EachHasBench d = (j : ℕ) → j < d.jobs → (v : ℕ) × (v < d.benches) × (d.allows j v ≡ true)
