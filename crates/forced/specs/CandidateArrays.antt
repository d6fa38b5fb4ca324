-- A search through a set of benches, the lowest first, and at each through the rocks there.
--     some_rock incident P v     a rock of entry v of incident meets P at v
--     rock_of incident P v       the lowest such rock, and none where there is none
--     bench_of incident P cand   the lowest bench of cand with such a rock, and none where there is none
--     Left incident P cand left  cand without some benches that have no such rock
--     CoversBut n low high P set u     the set has every bench but u at which a rock meets P
--     Neutral n dir neutral  the rocks that are not directed, as a set
use Rattle.std.specs.Prelude.{ℕ, ◌<◌, ◌≡◌, Bool, true, false, ◌&&◌, ◌||◌, List, Option, get_or, eqb}
use Rattle.sums.specs.Search.{any}
use Rattle.bits.specs.Bits.{is_set}
use Rattle.rocks.specs.declared.rocks.Limits.{Limits}
use Rattle.rocks.specs.RockArrays.{first, touches_at}

unfoldable pub some_rock : List ℕ → (ℕ → ℕ → Bool) → ℕ → Bool
some_rock incident P v = any 64 (λ r. is_set 64 (get_or incident v 0) r && P r v)

unfoldable pub rock_of : List ℕ → (ℕ → ℕ → Bool) → ℕ → Option ℕ
rock_of incident P v = first 64 (λ r. is_set 64 (get_or incident v 0) r && P r v)

unfoldable pub bench_of : List ℕ → (ℕ → ℕ → Bool) → ℕ → Option ℕ
bench_of incident P cand = first 64 (λ v. is_set 64 cand v && some_rock incident P v)

pub record Left (incident : List ℕ) (P : ℕ → ℕ → Bool) (cand left : ℕ) : Type 0 where
  pub inside : (u : ℕ) → u < 64 → is_set 64 left u ≡ true → is_set 64 cand u ≡ true
  pub passed : (u : ℕ) → u < 64 → is_set 64 cand u ≡ true → is_set 64 left u ≡ false → some_rock incident P u ≡ false

-- The set has every bench but u at which a rock meets P.
abbrev pub CoversBut : Limits → List ℕ → List ℕ → (ℕ → ℕ → Bool) → ℕ → ℕ → Type 0
CoversBut n low high P set u =
    (r v : ℕ) → r < n.rocks → touches_at low high r v ≡ true → P r v ≡ true → (is_set 64 set v || eqb v u) ≡ true

-- The rocks that are not directed, as a set.
abbrev pub Neutral : Limits → List ℕ → ℕ → Type 0
Neutral n dir neutral = (r : ℕ) → r < n.rocks → r < 64 → is_set 64 neutral r ≡ eqb (get_or dir r 0) 0
