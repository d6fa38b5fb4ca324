-- Unions are the same in any order and grouping, as sets of benches.
--     union-order, union-grouping   of two sets, and of three
--     in-joined, joined_in          the benches of a union are those of the sets that are joined
--     any_grouping                  so all ways to join the same sets come to the same
--     all-joined                    and where they are the first n sets, to the union of these
use Prim.Native.Nat.{ℕ}
use mathlib.Core.Path.{◌≡◌, refl, sym, subst, fun_ext, ◌∙◌}
use mathlib.Core.Bool.{Bool, true}
use mathlib.Core.Logic.{inl, inr}
use lib.Dec.{ltb}
use borrow.Author.Tests.{eq-eqb, eqb-true, lt-ltb, ltb-true}
use Rattle.bools.proofs.BoolLaws.{bool_ext, or_left, or_right, or_elim, or_comm, or_assoc}
use Rattle.sums.proofs.SearchLaws.{any_intro, any_elim}
use Rattle.unions.specs.Unions.{union, union_of, Grouping, one, join, joined, names}

pub union-order : (S R : ℕ → Bool) → union S R ≡ union R S
union-order S R = fun_ext (λ v. or_comm (S v) (R v))

pub union-grouping : (S R Q : ℕ → Bool) → union (union S R) Q ≡ union S (union R Q)
union-grouping S R Q = fun_ext (λ v. or_assoc (S v) (R v) (Q v))

module _ (sets : ℕ → ℕ → Bool) where
  pub in-joined : (g : Grouping) (i v : ℕ) → names g i ≡ true → sets i v ≡ true → joined sets g v ≡ true
  in-joined (one k) i v named in-it = subst (λ (x : ℕ). sets x v ≡ true) (eqb-true i k named) in-it
  in-joined (join g h) i v named in-it = elim (or_elim (names g i) (names h i) named) [
    | inl p ↦ or_left (joined sets h v) (in-joined g i v p in-it)
    | inr p ↦ or_right (joined sets g v) (in-joined h i v p in-it)
  ]

  pub joined_in : (g : Grouping) (v : ℕ) → joined sets g v ≡ true
      → (i : ℕ) × (names g i ≡ true) × (sets i v ≡ true)
  joined_in (one k) v p = (k, eq-eqb k k refl, p)
  joined_in (join g h) v p = elim (or_elim (joined sets g v) (joined sets h v) p) [
    | inl q ↦ let (i, named, in-it) = joined_in g v q in (i, or_left (names h i) named, in-it)
    | inr q ↦ let (i, named, in-it) = joined_in h v q in (i, or_right (names g i) named, in-it)
  ]

  pub any_grouping : (g h : Grouping) → ((i : ℕ) → names g i ≡ names h i) → joined sets g ≡ joined sets h
  any_grouping g h same =
      fun_ext (λ v. bool_ext (joined sets g v) (joined sets h v)
      (λ p. let (i, named, in-it) = joined_in g v p in in-joined h i v (sym (same i) ∙ named) in-it)
      (λ p. let (i, named, in-it) = joined_in h v p in in-joined g i v (same i ∙ named) in-it))

  pub all-joined : (n : ℕ) (g : Grouping) → ((i : ℕ) → names g i ≡ ltb i n) → joined sets g ≡ union_of n sets
  all-joined n g same =
      fun_ext (λ v. bool_ext (joined sets g v) (union_of n sets v)
      (λ p.
      let (i, named, in-it) = joined_in g v p in
      any_intro n (λ k. sets k v) i (ltb-true i n (sym (same i) ∙ named)) in-it)
      (λ p.
      let (i, below, in-it) = any_elim n (λ k. sets k v) p in
      in-joined g i v (same i ∙ lt-ltb i n below) in-it))
