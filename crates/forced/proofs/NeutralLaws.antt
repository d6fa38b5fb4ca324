-- The neutral rocks as a set.
--     WithOne, WithoutOne       a set with one more number, and one with one number less
--     LessOne, BothOf           one without the numbers of another, and the numbers that two have
--     without_one               one without the numbers of a set of one number
--     exceeds_at                rock r is too heavy for bench v
--     free-least                the lowest neutral rock of entry v of here with g
--     free_found, free_none     how a search through the neutral rocks of entry v of here for one that is forced ends (its loop keeps Searched)
--     neutral_starts            where no rock is directed, every rock is neutral
--     neutral_next              after a rock is directed, the set loses it
use Rattle.std.proofs.Common.{Some, None}
use Prim.Native.Nat.{ℕ, ◌+◌, ◌≤◌, ◌<◌}
use mathlib.Core.Path.{◌≡◌, sym, ap, ◌∙◌}
use mathlib.Core.Bool.{Bool, true, not, ◌&&◌, ◌||◌}
use mathlib.Core.Logic.{inl, inr}
use mathlib.Core.List.{List}
use native.Mathlib.Omega.{arith}
use lib.ListN.{length, get_or, set, replicate, get_or-replicate}
use lib.Dec.{eqb, ltb}
use lib.Seq.{get_or-set_same, get_or-set_other}
use borrow.Author.Tests.{eq-eqb, ne_eqb, lt-ltb, ltb-true}
use Rattle.bools.proofs.BoolLaws.{split, and_left, and-false_left, and-false_right, not_intro_true, not_intro_false, and_unit}
use Rattle.bools.proofs.OrderLaws.{eq-or-ne}
use Rattle.sums.specs.Search.{least}
use Rattle.sums.proofs.SearchLaws.{least_cong}
use Rattle.bits.specs.Bits.{is_set}
use Rattle.bits.proofs.SetBits.{is_set-zero}
use Rattle.rocks.specs.declared.rocks.Limits.{Limits}
use Rattle.sets.specs.Sets.{lowest_of}
use Rattle.arrays.specs.Arrays.{plus_of}
use Rattle.rocks.specs.RockArrays.{touches_at}
use Rattle.rock_graph.specs.Neighbours.{Incident}
use Rattle.forced.specs.SetArrays.{forces_at}
use Rattle.forced.specs.CandidateArrays.{Neutral, rock_of}
use Rattle.forced.proofs.AnswerLaws.{first_at, first_past}
use Rattle.sets.proofs.SetRun.{Searched, searched_found, searched_none}
use Rattle.rocks.proofs.ScanLaws.{and_assoc}

-- The set with u has what the set has, and u.
abbrev pub WithOne : ℕ → ℕ → ℕ → Type 0
WithOne set set' u = (w : ℕ) → w < 64 → is_set 64 set' w ≡ (is_set 64 set w || eqb w u)

-- The set loses u.
abbrev pub WithoutOne : ℕ → ℕ → ℕ → Type 0
WithoutOne set set' u = (w : ℕ) → w < 64 → is_set 64 set' w ≡ (is_set 64 set w && not (eqb w u))

-- The set loses what one has.
abbrev pub LessOne : ℕ → ℕ → ℕ → Type 0
LessOne set set' one = (w : ℕ) → is_set 64 set' w ≡ (is_set 64 set w && not (is_set 64 one w))

abbrev pub BothOf : ℕ → ℕ → ℕ → Type 0
BothOf set a c = (u : ℕ) → is_set 64 set u ≡ (is_set 64 a u && is_set 64 c u)

abbrev pub exceeds_at : ℕ → List ℕ → List ℕ → ℕ → ℕ → Bool
exceeds_at bound weight load v r = ltb bound (get_or load v 0 + get_or weight r 0)

-- ── the neutral rocks at a bench ──

module _ (n : Limits) (low high dir incident : List ℕ) (neutral : ℕ) (H : Incident n low high incident) (N : Neutral n dir neutral) (v : ℕ) (hv : v < 64) (set : ℕ)
    (both : BothOf set (get_or incident v 0) neutral) where
  -- A rock of the set is one at v that is not directed.
  free_rock : (g : ℕ → Bool) (r : ℕ) → r < 64 → (is_set 64 set r && g r) ≡ (is_set 64 (get_or incident v 0) r && (eqb (get_or dir r 0) 0 && g r))
  free_rock g r h =
      ap (λ (x : Bool). x && g r) (both r) ∙ elim (split (is_set 64 (get_or incident v 0) r)) [
        | inl p ↦
            let below : r < n.rocks =
            ltb-true r n.rocks (and_left (ltb r n.rocks) (touches_at low high r v) (sym (H.rocks_at v r hv h) ∙ p)) in
            and_assoc (is_set 64 (get_or incident v 0) r) (is_set 64 neutral r) (g r)
            ∙ ap (λ (x : Bool). is_set 64 (get_or incident v 0) r && (x && g r)) (N r below h)
        | inr p ↦
            and-false_left (g r) (and-false_left (is_set 64 neutral r) p) ∙ sym (and-false_left (eqb (get_or dir r 0) 0 && g r) p)
      ]

  pub free-least : (g : ℕ → Bool) → least 64 (λ r. is_set 64 set r && g r) ≡ least 64 (λ r. is_set 64 (get_or incident v 0) r && (eqb (get_or dir r 0) 0 && g r))
  free-least g =
      least_cong 64 (λ r. is_set 64 set r && g r) (λ r. is_set 64 (get_or incident v 0) r && (eqb (get_or dir r 0) 0 && g r)) (free_rock g)

  module _ (bound : ℕ) (weight load : List ℕ) (left : ℕ) (S : Searched set (exceeds_at bound weight load v) left) where
    pub free_found : (r : ℕ) → r ≡ lowest_of left → r < 64 → exceeds_at bound weight load v r ≡ true
        → Some r ≡ rock_of incident (forces_at bound weight dir load) v
    unfolding rock_of
    free_found r e h p =
        first_at (λ r. is_set 64 (get_or incident v 0) r && forces_at bound weight dir load r v) r
        (searched_found set (exceeds_at bound weight load v) left r S e h p ∙ free-least (exceeds_at bound weight load v)) h

    pub free_none : left ≤ 0 → None ≡ rock_of incident (forces_at bound weight dir load) v
    unfolding rock_of
    free_none none =
        let e = searched_none set (exceeds_at bound weight load v) left S none ∙ free-least (exceeds_at bound weight load v) in
        first_past (λ r. is_set 64 (get_or incident v 0) r && forces_at bound weight dir load r v) (omega (arith, e))

-- ── how the set changes ──

pub neutral_starts : (n : Limits) (dir : List ℕ) (all : ℕ) → ((r : ℕ) → r < 64 → is_set 64 all r ≡ ltb r n.rocks) → dir ≡ replicate 64 0 → Neutral n dir all
neutral_starts n dir all every e r below h =
    every r h ∙ lt-ltb r n.rocks below
    ∙ sym (eq-eqb (get_or dir r 0) 0 (ap (λ (x : List ℕ). get_or x r 0) e ∙ get_or-replicate 64 r 0 0 h))

pub without_one : (set set' one r : ℕ) → WithOne 0 one r → LessOne set set' one → WithoutOne set set' r
without_one set set' one r single less w h =
    less w
    ∙ ap (λ (x : Bool). is_set 64 set w && not x) (single w h ∙ ap (λ (x : Bool). x || eqb w r) (is_set-zero 64 w))

-- Rock r is directed.
pub neutral_next : (n : Limits) (dir : List ℕ) (r u : ℕ) → r < length dir → {dir' : List ℕ} → dir' ≡ set dir r (plus_of u 1)
    → (neutral neutral' : ℕ) → WithoutOne neutral neutral' r → Neutral n dir neutral → Neutral n dir' neutral'
neutral_next n dir r u room {dir'} ed neutral neutral' less N k below h =
    less k h ∙ sym (ap (λ (x : List ℕ). eqb (get_or x k 0) 0) ed ∙ elim (eq-or-ne k r) [
      | inl e ↦
          let same : get_or (set dir r (plus_of u 1)) k 0 ≡ plus_of u 1 =
          ap (λ (i : ℕ). get_or (set dir r (plus_of u 1)) i 0) e ∙ get_or-set_same dir r (plus_of u 1) 0 room in
          ne_eqb (get_or (set dir r (plus_of u 1)) k 0) 0 (λ z. omega (arith, same))
          ∙ sym (and-false_right (is_set 64 neutral k) (not_intro_false (eq-eqb k r e)))
      | inr ne ↦
          ap (λ (i : ℕ). eqb i 0) (get_or-set_other dir r k (plus_of u 1) 0 ne) ∙ sym (N k below h)
          ∙ sym (and_unit (is_set 64 neutral k) (not_intro_true (ne_eqb k r ne)))
    ])
