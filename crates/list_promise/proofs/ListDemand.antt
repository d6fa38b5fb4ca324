-- What is promised of the check of a list over the bytes of the door (specs/ListDoorClaim), from the equation that a
-- call ensures (specs/ListDoor).
--     one_case              every call is one of three, and no call is two of them
--     list-claim            the claim holds of what a call returns and leaves in the answer's table
--     with_claim            the equation, and the claim with it
use Prim.Native.Nat.{ℕ, zero, suc, ◌^◌, ◌≤◌, ◌<◌}
use native.Mathlib.Omega.{arith}
use mathlib.Core.Path.{◌≡◌, refl, sym, ap, subst, ◌∙◌}
use mathlib.Core.Logic.{◌⊎◌, inl, inr, ◌≢◌}
use mathlib.Core.List.{List, [], ◌∷◌}
use lib.ListN.{length, drop}
use Rattle.bools.proofs.OrderLaws.{lt-or-le, eq-or-ne}
use Rattle.fields.specs.declared.fault.Fault.{Fault}
use Rattle.fields.specs.declared.fault.Fault.TheVariants.{Table, PlaceCount}
use Rattle.fields.specs.Contents.{Contents}
use Rattle.frame.specs.Reading.{sheet_of}
use Rattle.frame.specs.Sound.{SoundSheet}
use Rattle.frame.proofs.AcceptedLaws.{accepted_sound}
use Rattle.frame.proofs.SheetTables.{tables_of}
use Rattle.day.specs.Day.{Day, day_of, place_in, largest_of, fullest_of}
use Rattle.answers.specs.declared.check.ListAnswer.{ListAnswer}
use Rattle.answers.specs.declared.check.ListAnswer.TheVariants.{Passed, NotPassed, Fault as Faulty}
use Rattle.blocking.specs.Claim.{SheetRefused, OneCase}
use Rattle.list_check.specs.ListCheck.{listed_of}
use Rattle.list_check.specs.ListClaim.{GoodPlaces, BadPlaces, GreatestLoad}
use Rattle.list_check.proofs.CheckRun.{largest-small}
use Rattle.list_check.proofs.ListLaws.{passed_with, listed_other, good_listed, bad_listed}
use Rattle.list_check.proofs.PlacesLaws.{good_or_bad, good_same, bad_same, greatest_is, greatest_same}
use Rattle.tables.specs.Tables.{entries_of, entry_of, numbers_of, room_of, put_numbers}
use Rattle.tables.specs.Words.{fault_word}
use Rattle.tables.proofs.EntryLaws.{Fit, entry_put, later_kept}
use Rattle.tables.proofs.NumberSteps.{length-put_numbers, put_nothing}
use Rattle.tables.proofs.TableSteps.{length-numbers_of, entry_at}
use Rattle.tables.proofs.WordLaws.{fault_word_large}
use Rattle.door.proofs.RoomLaws.{one_case_of}
use Rattle.list_promise.specs.ListDoor.{door_list, list_word, list_numbers, ListCalled}
use Rattle.list_promise.specs.ListDoorClaim.{ShortForList, RoomForList, CanCheckList, ListDoorClaim}
use Rattle.list_promise.proofs.ListReplies.{door_refused, door_short, door_read}

-- ── the three kinds of calls ──

pub one_case : (s numbers : List ℕ) → OneCase (SheetRefused s) (ShortForList s numbers) (CanCheckList s numbers)
one_case s numbers =
    one_case_of s (λ c. length numbers < 16) (RoomForList s numbers)
    (λ c e. elim (lt-or-le (length numbers) 16) [
      | inl few ↦ inl (omega arith)
      | inr room ↦ inr (record { sheet_accepted = e; two_numbers = omega arith })
    ])
    (λ c t. t.sheet_accepted) (λ c short t. omega (arith, t.two_numbers))

-- ── two numbers in the answer's table ──

pair_fits : {a b : ℕ} → a < 2 ^ 64 → b < 2 ^ 64 → Fit (a ∷ b ∷ [])
pair_fits p q zero l = p
pair_fits p q (suc zero) l = q
pair_fits p q (suc (suc i)) l = absurd (omega arith)

two_kept : (ns numbers : List ℕ) → length ns ≡ 2 → 16 ≤ length numbers
    → (drop 16 (put_numbers ns numbers) ≡ drop 16 numbers) × (length (put_numbers ns numbers) ≡ length numbers)
two_kept ns numbers e room = (later_kept ns numbers 2 e, length-put_numbers ns numbers (omega arith))

-- ── a list that can be checked ──

module _ (s places numbers : List ℕ) where
  abbrev list : List ℕ
  list = numbers_of places

  abbrev answer : ListAnswer
  answer = door_list s list (room_of numbers)

  abbrev numbers_then : List ℕ
  numbers_then = put_numbers (list_numbers answer) numbers

  fault-after : (f : Fault) → answer ≡ Faulty f → (list_word answer ≡ fault_word f) × (numbers_then ≡ numbers)
  fault-after f e = (
    ap list_word e,
    ap (λ (a : ListAnswer). put_numbers (list_numbers a) numbers) e ∙ put_nothing numbers,
  )

  module _ (c : Contents) (t : RoomForList s numbers c) where
    abbrev d : Day
    d = day_of c

    abbrev Good : Type 0
    Good = GoodPlaces d (entries_of places) (entry_of places)

    abbrev Bad : Type 0
    Bad = BadPlaces d (entries_of places) (entry_of places)

    sound : SoundSheet c
    sound = accepted_sound s c t.sheet_accepted

    listed : answer ≡ listed_of d list
    listed = door_read s list (room_of numbers) c t.sheet_accepted (omega (arith, t.two_numbers))

    sized : length list ≡ entries_of places
    sized = length-numbers_of places

    -- Entries and numbers of the list are the same.
    entry_is : entries_of places ≡ d.jobs → (j : ℕ) → j < d.jobs → entry_of places j ≡ place_in list j
    entry_is one j l = sym (entry_at places j (omega (arith, one)))

    number_is : entries_of places ≡ d.jobs → (j : ℕ) → j < d.jobs → place_in list j ≡ entry_of places j
    number_is one j l = entry_at places j (omega (arith, one))

    other-answer : entries_of places ≢ d.jobs → answer ≡ Faulty PlaceCount
    other-answer ne = listed ∙ listed_other d list (λ e. ne (sym sized ∙ e))

    good-answer : Good → answer ≡ Passed (passed_with d list)
    good-answer g =
        listed ∙ good_listed d list (subst (λ (n : ℕ). GoodPlaces d n (place_in list)) (sym sized)
        (good_same d (entry_of places) (place_in list) (entry_is g.one_to_a_job) g))

    bad-answer : Bad → answer ≡ NotPassed
    bad-answer b =
        listed ∙ bad_listed d list (subst (λ (n : ℕ). BadPlaces d n (place_in list)) (sym sized)
        (bad_same d (entry_of places) (place_in list) (entry_is b.one_to_a_job) b))

    some_case : (answer ≡ Faulty PlaceCount) ⊎ (Good ⊎ Bad)
    some_case = elim (eq-or-ne (entries_of places) d.jobs) [
      | inr ne ↦ inl (other-answer ne)
      | inl one ↦ inr (good_or_bad d (entry_of places) one)
    ]

    passed_back : list_word answer ≡ 1 → Good
    passed_back w = elim some_case [
      | inl e ↦ absurd (omega (arith, w, ap list_word e, fault_word_large PlaceCount))
      | inr (inl g) ↦ g
      | inr (inr b) ↦ absurd (omega (arith, w, ap list_word (bad-answer b)))
    ]

    not_passed_back : list_word answer ≡ 0 → Bad
    not_passed_back w = elim some_case [
      | inl e ↦ absurd (omega (arith, w, ap list_word e, fault_word_large PlaceCount))
      | inr (inl g) ↦ absurd (omega (arith, w, ap list_word (good-answer g)))
      | inr (inr b) ↦ b
    ]

    greatest_after : Good → GreatestLoad d (entry_of places) (entry_of numbers_then 0) (entry_of numbers_then 1)
    greatest_after g =
        let G = greatest_is d (place_in list) sound.head.some_bench in
        let small = largest-small c _ _ _ _ _ (tables_of s c (sheet_of c) t.sheet_accepted refl) list in
        let values : List ℕ = largest_of d list ∷ fullest_of d list ∷ [] in
        let fits : Fit values =
        pair_fits (omega (arith, small)) (omega (arith, G.fullest_bench, sound.head.at_most_64_benches)) in
        rw (good-answer g, entry_put values numbers 0 fits (omega arith), entry_put values numbers 1 fits (omega arith))
        (greatest_same d (place_in list) (entry_of places) (number_is g.one_to_a_job) G)

    zeros_after : Bad → (entry_of numbers_then 0 ≡ 0) × (entry_of numbers_then 1 ≡ 0)
    zeros_after b =
        let fits : Fit (0 ∷ 0 ∷ []) = pair_fits (omega arith) (omega arith) in
        rw (bad-answer b) (
          entry_put (0 ∷ 0 ∷ []) numbers 0 fits (omega arith),
          entry_put (0 ∷ 0 ∷ []) numbers 1 fits (omega arith),
        )

    later_kept_after : (drop 16 numbers_then ≡ drop 16 numbers) × (length numbers_then ≡ length numbers)
    later_kept_after = elim some_case [
      | inl e ↦ let same = (fault-after PlaceCount e).1 in (ap (drop 16) same, ap length same)
      | inr (inl g) ↦ rw (good-answer g) (two_kept _ numbers refl t.two_numbers)
      | inr (inr b) ↦ rw (bad-answer b) (two_kept _ numbers refl t.two_numbers)
    ]

  -- ── the claim ──

  given_claim : ListDoorClaim s places numbers (list_word answer) numbers_then
  given_claim =
      record {
        one_case = one_case s numbers;
        sheet_refused = λ f e. fault-after f (door_refused s list (room_of numbers) f e);
        table_short = λ c e few. fault-after (Table 0) (door_short s list (room_of numbers) c e (omega (arith, few)));
        other_count = λ c t ne. fault-after PlaceCount (other-answer c t ne);
        passed_good = λ c t w. passed_back c t w;
        good_passed = λ c t g. ap list_word (good-answer c t g);
        passed_with = λ c t w. greatest_after c t (passed_back c t w);
        not_passed_bad = λ c t w. not_passed_back c t w;
        bad_not_passed = λ c t b. ap list_word (bad-answer c t b);
        not_passed_with = λ c t w. zeros_after c t (not_passed_back c t w);
        later_numbers_kept = λ c t. later_kept_after c t;
      }

  pub list-claim : {r : ℕ} {numbers' : List ℕ} → ListCalled answer r numbers numbers'
      → ListDoorClaim s places numbers r numbers'
  list-claim called = rw (called.word, called.new_numbers) given_claim

  pub with_claim : {r : ℕ} {numbers' : List ℕ} → ListCalled answer r numbers numbers'
      → ListCalled answer r numbers numbers' × ListDoorClaim s places numbers r numbers'
  with_claim called = (called, list-claim called)
