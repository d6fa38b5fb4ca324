-- Rules 1 and 2 in arrays.
--     rule_one_at, rule_two_at  Rule 1 and Rule 2 at v, by rock r
--     activates_at             v is to be activated, by rock r
--     Waits                    the set has every bench of the conflict set that is not activated
use Rattle.std.specs.Prelude.{ℕ, ◌+◌, ◌<◌, ◌≡◌, Bool, true, false, not, ◌&&◌, ◌||◌, List, get_or, ltb}
use Rattle.bits.specs.Bits.{is_set}
use Rattle.rocks.specs.declared.rocks.Limits.{Limits}
use Rattle.rocks.specs.RockArrays.{other_at, within_at, father_at, child_at}

abbrev pub rule_one_at : Limits → List ℕ → List ℕ → List ℕ → List ℕ → List ℕ → List ℕ → ℕ → ℕ → Bool
rule_one_at n low high weight own dir joined r v =
    father_at n.benches low high dir joined r v && ltb n.bound (get_or own v 0 + get_or weight r 0)

abbrev pub rule_two_at : Limits → List ℕ → List ℕ → List ℕ → List ℕ → List ℕ → List ℕ → ℕ → ℕ → Bool
rule_two_at n low high weight dir joined level r v =
    ltb (get_or weight r 0) n.small
    && (within_at n.benches level (other_at low high r v)
    && (father_at n.benches low high dir joined r v || child_at n.benches low high dir joined r v))

abbrev pub activates_at : Limits → List ℕ → List ℕ → List ℕ → List ℕ → List ℕ → List ℕ → List ℕ → ℕ → ℕ → Bool
activates_at n low high weight own dir joined level r v =
    within_at n.benches joined v
    && (not (within_at n.benches level v)
    && (rule_one_at n low high weight own dir joined r v || rule_two_at n low high weight dir joined level r v))

abbrev pub Waits : Limits → List ℕ → List ℕ → ℕ → Type 0
Waits n joined level set =
    (v : ℕ) → v < n.benches → within_at n.benches joined v ≡ true → within_at n.benches level v ≡ false
    → is_set 64 set v ≡ true
