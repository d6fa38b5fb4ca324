-- Small laws behind the functions over classes.
--     Shut, shut_starts, shut_more, shut_ends     the set of shut benches, bench by bench
--     Join, join_starts, join_more, join_ends     extras and labels where two classes are joined, bench by bench
use Prim.Native.Nat.{ℕ, ◌+◌, ◌≤◌, ◌<◌, min}
use mathlib.Core.Path.{◌≡◌, refl, ap, ap₂, ◌∙◌}
use mathlib.Core.Bool.{Bool, true, false, ◌&&◌, ◌||◌}
use mathlib.Core.Logic.{inl, inr}
use mathlib.Core.List.{List}
use native.Mathlib.Omega.{arith}
use lib.Dec.{eqb}
use lib.ListN.{length, get_or, set, length-set}
use borrow.Author.Tests.{eq-eqb, ne_eqb}
use Rattle.bools.proofs.OrderLaws.{eq-or-ne}
use Rattle.bits.specs.Bits.{is_set}
use Rattle.arrays.specs.Arrays.{plus_of, filled}
use Rattle.arrays.proofs.FilledLaws.{filled_none, filled_more, filled-end, filled-rest}
use Rattle.placing.specs.ClassArrays.{raise_of, relabel_of}

-- ── shutting a class ──

module _ (shut label : ℕ) (labels : List ℕ) where
  abbrev shut_by : ℕ → Bool
  shut_by u = is_set 64 shut u || eqb (get_or labels u 0) label

  pub record Shut (v all : ℕ) : Type 0 where
    pub passed : (u : ℕ) → u < 64 → u < v → is_set 64 all u ≡ shut_by u
    pub ahead : (u : ℕ) → u < 64 → v ≤ u → is_set 64 all u ≡ is_set 64 shut u

  pub shut_starts : Shut 0 shut
  shut_starts = record { passed = λ u l t. absurd (omega arith); ahead = λ u l t. refl }

  pub shut_more : (v all : ℕ) {next : ℕ} {c : Bool} → Shut v all → c ≡ eqb (get_or labels v 0) label
      → ((u : ℕ) → u < 64 → is_set 64 next u ≡ (is_set 64 all u || (c && eqb u v))) → Shut (v + 1) next
  shut_more v all {c = c} S e put =
      record {
        passed = λ u l t. elim (eq-or-ne u v) [
          | inl same ↦
              put u l
              ∙ rw (S.ahead u l (omega arith), eq-eqb u v same, e, same)
              (here (is_set 64 shut v) (eqb (get_or labels v 0) label))
          | inr other ↦ put u l ∙ rw (ne_eqb u v other) (there (is_set 64 all u) c) ∙ S.passed u l (omega arith)
        ];
        ahead = λ u l t.
            put u l ∙ rw (ne_eqb u v (omega arith)) (there (is_set 64 all u) c) ∙ S.ahead u l (omega arith);
      }
    where
      here : (a b : Bool) → (a || (b && true)) ≡ (a || b)
      here true b = refl
      here false true = refl
      here false false = refl

      there : (a b : Bool) → (a || (b && false)) ≡ a
      there true b = refl
      there false true = refl
      there false false = refl

  pub shut_ends : (benches v all : ℕ) → Shut v all → benches ≤ v
      → (u : ℕ) → u < benches → u < 64 → is_set 64 all u ≡ shut_by u
  shut_ends benches v all S t u l k = S.passed u k (omega arith)

-- ── joining two classes ──

-- An entry that is not filled yet is the old one.
entry_before : (f : ℕ → ℕ) (n : ℕ) (xs : List ℕ) {ys : List ℕ} {a : ℕ} → ys ≡ filled n f xs → a ≡ get_or ys n 0
    → a ≡ get_or xs n 0
entry_before f n xs e p = p ∙ ap (λ (zs : List ℕ). get_or zs n 0) e ∙ filled-rest f n xs n 0 (omega arith)

module _ (low high x y : ℕ) (labels extra : List ℕ) where
  abbrev pub raised_at : ℕ → ℕ
  raised_at u = plus_of (get_or extra u 0) (raise_of low high x y (get_or labels u 0))

  abbrev pub label_at : ℕ → ℕ
  label_at u = relabel_of low high (get_or labels u 0)

  pub record Join (v : ℕ) (labels' extra' : List ℕ) : Type 0 where
    pub labels_long : length labels' ≡ length labels
    pub extra_long : length extra' ≡ length extra
    pub labelled : labels' ≡ filled v label_at labels
    pub raised : extra' ≡ filled v raised_at extra

  pub join_starts : Join 0 labels extra
  join_starts =
      record {
        labels_long = refl;
        extra_long = refl;
        labelled = filled_none label_at labels;
        raised = filled_none raised_at extra;
      }

  module _ (v : ℕ) {labels' extra' : List ℕ} (J : Join v labels' extra') {label : ℕ} (here : label ≡ get_or labels' v 0)
    where
      label_is : label ≡ get_or labels v 0
      label_is = entry_before label_at v labels J.labelled here

      pub join_more : {more old new next : ℕ} {labels'' extra'' : List ℕ} → more ≡ raise_of low high x y label
          → old ≡ get_or extra' v 0 → new ≡ plus_of old more → extra'' ≡ set extra' v new → next ≡ relabel_of low high label
          → labels'' ≡ set labels' v next → Join (v + 1) labels'' extra''
      join_more {more} {old} {new} {next} em eo en ee el ls =
          record {
            labels_long = ap length ls ∙ length-set labels' v next ∙ J.labels_long;
            extra_long = ap length ee ∙ length-set extra' v new ∙ J.extra_long;
            labelled = filled_more label_at v labels J.labelled (el ∙ ap (relabel_of low high) label_is) ls;
            raised = filled_more raised_at v extra J.raised
                (en
                ∙ ap₂ plus_of (entry_before raised_at v extra J.raised eo)
                (em ∙ ap (raise_of low high x y) label_is))
                ee;
          }

  -- Both tables have room for all benches.
  pub join_ends : (benches end v : ℕ) {labels' extra' : List ℕ} {room : ℕ} → room ≡ min (length labels) (length extra)
      → end ≡ min benches room → v ≤ end → end ≤ v → Join v labels' extra'
      → (benches ≤ length labels → benches ≤ length extra → extra' ≡ filled benches raised_at extra)
      × (benches ≤ length labels → benches ≤ length extra → labels' ≡ filled benches label_at labels)
  join_ends benches end v er ee l m J = (
    λ a b. filled-end raised_at benches v extra (omega (arith, er, ee)) (omega (arith, er, ee)) J.raised,
    λ a b. filled-end label_at benches v labels (omega (arith, er, ee)) (omega (arith, er, ee)) J.labelled,
  )
