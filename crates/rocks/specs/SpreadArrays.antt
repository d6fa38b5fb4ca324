-- Sets of benches that neutral rocks join, and how rocks and benches balance. A set is a function to Bool; in the code
-- it is a number of 64 bits, whose benches `is_set 64` tells.
--     neutral_rock dir r          rock r is neutral
--     inside_at low dir S r       and its lower end is in the set
--     differ a b                  one of the two holds, and the other does not
--     crosses_at low high dir S r  rock r is neutral, with one end in the set and one outside
--     join_of, widen_of            the set after one rock, and after the first k rocks
--     links_at, linked_at         two benches joined by rock r, which is neutral; by some neutral rock
--     is_cycle, is_crowded        the balance is that of one cycle, of a crowded set
--     balance_of rocks size       a tree where there are fewer rocks than benches, a cycle where as many, else crowded
--     Within m k low high         the ends of the first k rocks are below m
--     Shows m S set               the number has the benches below m that are in S, and no other
use Rattle.std.specs.Prelude.{ℕ, zero, suc, ◌≤◌, ◌<◌, ◌≡◌, eqb, ltb, Bool, true, false, not, cond, ◌&&◌, ◌||◌}
use Rattle.std.specs.Prelude.{List, get_or}
use Rattle.sums.specs.Search.{any}
use Rattle.bits.specs.Bits.{is_set}
use Rattle.rocks.specs.declared.balancing.Balance.{Balance}
use Rattle.rocks.specs.declared.balancing.Balance.TheVariants.{Tree, OneCycle, Crowded, Unknown}
use Rattle.rocks.specs.RockArrays.{touches_at, other_at}

abbrev pub neutral_rock : List ℕ → ℕ → Bool
neutral_rock dir r = eqb (get_or dir r 0) 0

abbrev pub inside_at : List ℕ → List ℕ → (ℕ → Bool) → ℕ → Bool
inside_at low dir S r = neutral_rock dir r && S (get_or low r 0)

-- One of the two holds, and the other does not.
abbrev pub differ : Bool → Bool → Bool
differ a b = cond a (not b) b

abbrev pub crosses_at : List ℕ → List ℕ → List ℕ → (ℕ → Bool) → ℕ → Bool
crosses_at low high dir S r = neutral_rock dir r && differ (S (get_or low r 0)) (S (get_or high r 0))

-- Both ends of a rock that crosses join the set.
abbrev pub join_of : List ℕ → List ℕ → List ℕ → (ℕ → Bool) → ℕ → ℕ → Bool
join_of low high dir S r v = S v || (crosses_at low high dir S r && touches_at low high r v)

-- One rock after the other.
unfoldable pub widen_of : List ℕ → List ℕ → List ℕ → (ℕ → Bool) → ℕ → ℕ → Bool
widen_of low high dir S zero = S
widen_of low high dir S (suc k) = join_of low high dir (widen_of low high dir S k) k

-- Rock r is neutral and joins u and v.
abbrev pub links_at : List ℕ → List ℕ → List ℕ → ℕ → ℕ → ℕ → Bool
links_at low high dir u v r = touches_at low high r u && neutral_rock dir r && eqb v (other_at low high r u)

abbrev pub linked_at : ℕ → List ℕ → List ℕ → List ℕ → ℕ → ℕ → Bool
linked_at rocks low high dir u v = any rocks (links_at low high dir u v)

-- ── the balance of rocks and benches ──

abbrev pub is_cycle : Balance → Bool
is_cycle Tree = false
is_cycle OneCycle = true
is_cycle Crowded = false
is_cycle Unknown = false

abbrev pub is_crowded : Balance → Bool
is_crowded Tree = false
is_crowded OneCycle = false
is_crowded Crowded = true
is_crowded Unknown = false

abbrev pub balance_of : ℕ → ℕ → Balance
balance_of rocks size = cond (ltb rocks size) Tree (cond (eqb rocks size) OneCycle Crowded)

-- ── arrays and numbers ──

abbrev pub Within : ℕ → ℕ → List ℕ → List ℕ → Type 0
Within m k low high = (r : ℕ) → r < k → (get_or low r 0 < m) × (get_or high r 0 < m)

pub record Shows (m : ℕ) (S : ℕ → Bool) (set : ℕ) : Type 0 where
  pub room : m ≤ 64
  pub entries : (v : ℕ) → is_set 64 set v ≡ (ltb v m && S v)
