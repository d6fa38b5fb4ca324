-- Sets of benches that have every bench at which something can happen.
--     Covers n low high P set     the set has every bench at which a rock of it meets P
--     Nowhere n low high P        no rock meets P at one of its ends
--     forces_at                   rock r is neutral and too heavy for its end v
--     forced_at                   and v is marked
--     Tails                       the set has every bench that a rock has come to be directed away from
use Rattle.std.specs.Prelude.{ℕ, ◌+◌, ◌<◌, ◌≡◌, Bool, true, false, ◌&&◌, List, get_or, eqb, ltb}
use Rattle.bits.specs.Bits.{is_set}
use Rattle.rocks.specs.declared.rocks.Limits.{Limits}
use Rattle.arrays.specs.Arrays.{plus_of}
use Rattle.rocks.specs.RockArrays.{touches_at, other_at}

abbrev pub Covers : Limits → List ℕ → List ℕ → (ℕ → ℕ → Bool) → ℕ → Type 0
Covers n low high P set =
    (r v : ℕ) → r < n.rocks → touches_at low high r v ≡ true → P r v ≡ true → is_set 64 set v ≡ true

abbrev pub Nowhere : Limits → List ℕ → List ℕ → (ℕ → ℕ → Bool) → Type 0
Nowhere n low high P = (r v : ℕ) → r < n.rocks → touches_at low high r v ≡ true → P r v ≡ false

abbrev pub forces_at : ℕ → List ℕ → List ℕ → List ℕ → ℕ → ℕ → Bool
forces_at bound weight dir load r v = eqb (get_or dir r 0) 0 && ltb bound (get_or load v 0 + get_or weight r 0)

abbrev pub forced_at : ℕ → List ℕ → List ℕ → List ℕ → List Bool → ℕ → ℕ → Bool
forced_at bound weight dir load marked r v =
    eqb (get_or dir r 0) 0 && get_or marked v false && ltb bound (get_or load v 0 + get_or weight r 0)

abbrev pub Tails : Limits → List ℕ → List ℕ → List ℕ → List ℕ → ℕ → Type 0
Tails n low high dir dir' set =
    (r v : ℕ) → r < n.rocks → touches_at low high r v ≡ true → get_or dir r 0 ≡ 0
    → get_or dir' r 0 ≡ plus_of (other_at low high r v) 1 → is_set 64 set v ≡ true
