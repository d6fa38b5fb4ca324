-- The first entry of a table, from some number on, that is not 0.
-- The search:
--     Passed t from i         the entries from number `from` on and before i are 0
--     search_found            what a search gives that stops at the first
-- What was found:
--     before_first            the entries before it are 0
--     first_some              if there is one, its number is at least `from`, and it is not 0
--     found-none, found_some  the same as an Option
-- The same for the numbers of a table without the first `from`:
--     numbers-zero            if there is none, they are all 0
--     FirstAt ns x, numbers_first     if there is one, it is number x of them, and those before it are 0
use Prim.Native.Nat.{ℕ, ◌+◌, ◌-◌, ◌≤◌, ◌<◌}
use native.Mathlib.Omega.{arith}
use mathlib.Core.Path.{◌≡◌, sym, ap, ◌∙◌}
use mathlib.Core.Bool.{false, not, ◌&&◌}
use mathlib.Core.Logic.{◌≢◌, inl, inr}
use mathlib.Core.List.{List}
use lib.ListN.{length, get_or, drop, length-drop, get_or-eq_default}
use lib.Seq.{get_or-drop}
use lib.Dec.{eqb, leb}
use Rattle.std.specs.Prelude.{Option, Some, None, MatchOption}
use borrow.Author.Tests.{ne_eqb, le-leb, lt-leb, le-ltb, lt-ltb, eq-eqb, leb-true}
use Rattle.bools.proofs.BoolLaws.{clash, and_intro, and_left, and_right, and-false_left, and-false_right}
use Rattle.bools.proofs.BoolLaws.{and-false_elim, not_intro_true, not_intro_false, not-eqb-true, not-eqb-false}
use Rattle.bools.proofs.OrderLaws.{lt-or-le}
use Rattle.sums.proofs.SearchLaws.{least-found, least-none, least-holds, least-before}
use Rattle.tables.specs.Tables.{entries_of, entry_of, numbers_of, first_from, found_from}
use Rattle.tables.proofs.TableSteps.{length-numbers_of, entry_at}

abbrev pub Passed : List ℕ → ℕ → ℕ → Type 0
Passed t from i = (n : ℕ) → from ≤ n → n < i → entry_of t n ≡ 0

-- ── the search ──

module _ (t : List ℕ) (from i : ℕ) (p : Passed t from i) where
  skipped : (n : ℕ) → n < i → (leb from n && not (eqb (entry_of t n) 0)) ≡ false
  skipped n h = elim (lt-or-le n from) [
    | inl l ↦ and-false_left _ (lt-leb from n l)
    | inr l ↦ and-false_right (leb from n) (not_intro_false (eq-eqb (entry_of t n) 0 (p n l h)))
  ]

  first_here : from ≤ i → i < entries_of t → entry_of t i ≢ 0 → first_from t from ≡ i
  unfolding first_from
  first_here l h e =
      least-found (entries_of t) _ i h (and_intro (le-leb from i l) (not_intro_true (ne_eqb (entry_of t i) 0 e))) skipped

first_none : (t : List ℕ) (from : ℕ) → Passed t from (entries_of t) → first_from t from ≡ entries_of t
unfolding first_from
first_none t from p = least-none (entries_of t) _ (λ n l. skipped t from (entries_of t) p n l)

-- What a search gives that stops at the first entry which is not 0.
pub search_found : (t : List ℕ) (from end : ℕ) (r : Option ℕ) → end ≡ entries_of t
    → MatchOption r (Passed t from end)
    (λ i. (from ≤ i) × (i < end) × (entry_of t i ≢ 0) × Passed t from i)
    → r ≡ found_from t from
unfolding found_from
search_found t from end None e p =
    rw (first_none t from (λ n l h. p n l (omega (arith, e))), le-ltb (entries_of t) (entries_of t) (omega arith))
search_found t from end (Some i) e (least, inside, some, before) =
    rw (first_here t from i before least (omega (arith, e)) some, lt-ltb i (entries_of t) (omega (arith, e)))

-- ── what was found ──

before_first : (t : List ℕ) (from : ℕ) → Passed t from (first_from t from)
unfolding first_from
before_first t from n l h = elim (and-false_elim (leb from n) _ (least-before (entries_of t) _ n h)) [
  | inl p ↦ clash (le-leb from n l) p
  | inr p ↦ not-eqb-false (entry_of t n) 0 p
]

first_some : (t : List ℕ) (from : ℕ) → first_from t from < entries_of t
    → (from ≤ first_from t from) × (entry_of t (first_from t from) ≢ 0)
unfolding first_from
first_some t from l =
    let found = least-holds (entries_of t) (λ n. leb from n && not (eqb (entry_of t n) 0)) l in
    (leb-true from _ (and_left (leb from _) _ found), not-eqb-true _ 0 (and_right (leb from _) _ found))

found-none : (t : List ℕ) (from : ℕ) → found_from t from ≡ None → entries_of t ≤ first_from t from
unfolding found_from
found-none t from e = elim (lt-or-le (first_from t from) (entries_of t)) [
  | inl l ↦ let none = rw (lt-ltb (first_from t from) (entries_of t) l) at e in absurd cc
  | inr h ↦ h
]

found_some : (t : List ℕ) (from : ℕ) {i : ℕ} → found_from t from ≡ Some i
    → (first_from t from < entries_of t) × (first_from t from ≡ i)
unfolding found_from
found_some t from {i} e = elim (lt-or-le (first_from t from) (entries_of t)) [
  | inl l ↦ let some = rw (lt-ltb (first_from t from) (entries_of t) l) at e in (l, cc)
  | inr h ↦ let none = rw (le-ltb (first_from t from) (entries_of t) h) at e in absurd cc
]

-- ── the numbers from the first on ──

-- Number x is not 0, and those before it are.
pub record FirstAt (ns : List ℕ) (x : ℕ) : Type 0 where
  pub inside : x < length ns
  pub zeros : (y : ℕ) → y < x → get_or ns y 0 ≡ 0
  pub some : get_or ns x 0 ≢ 0

module _ (t : List ℕ) (from : ℕ) where
  abbrev behind : List ℕ
  behind = drop from (numbers_of t)

  length-behind : length behind ≡ entries_of t - from
  length-behind = length-drop from (numbers_of t) ∙ ap (λ (n : ℕ). n - from) (length-numbers_of t)

  number_behind : (v : ℕ) → from + v < entries_of t → get_or behind v 0 ≡ entry_of t (from + v)
  number_behind v l = get_or-drop from (numbers_of t) v 0 ∙ entry_at t (from + v) l

  pub numbers-zero : found_from t from ≡ None → (v : ℕ) → get_or (drop from (numbers_of t)) v 0 ≡ 0
  numbers-zero e v = let none = found-none t from e in elim (lt-or-le (from + v) (entries_of t)) [
    | inl l ↦ number_behind v l ∙ before_first t from (from + v) (omega arith) (omega arith)
    | inr l ↦ get_or-eq_default behind 0 (omega (arith, length-behind))
  ]

  pub numbers_first : {i : ℕ} → found_from t from ≡ Some i
      → (x : ℕ) × (i ≡ from + x) × (i < entries_of t) × FirstAt (drop from (numbers_of t)) x
  numbers_first e =
      let (l, same) = found_some t from e in
      let (least, nonzero) = first_some t from l in
      let x : ℕ = first_from t from - from in
      let at : first_from t from ≡ from + x = omega arith in (
        x,
        sym same ∙ at,
        omega (arith, same),
        record {
          inside = omega (arith, length-behind);
          zeros = λ y h. number_behind y (omega arith) ∙ before_first t from (from + y) (omega arith) (omega arith);
          some = λ e. nonzero (ap (entry_of t) at ∙ sym (number_behind x (omega arith)) ∙ e);
        },
      )
