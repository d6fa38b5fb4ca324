-- What is promised of the check of a set over the bytes of the door (specs/SetDoorClaim), from the equation that a call
-- ensures (specs/SetDoor) and what is promised of the answer (set_check's specs/SetClaim).
--     one_case              every call is one of three, and no call is two of them
--     number_put, one_kept  one number in the answer's table: its entry is read back, and what is after it is kept
--     door_claim            the claim holds of what a call returns and leaves in the answer's table
--     with_claim            the equation, and the claim with it
use Prim.Native.Nat.{ℕ, zero, suc, ◌^◌, ◌≤◌, ◌<◌}
use native.Mathlib.Omega.{arith}
use mathlib.Core.Path.{◌≡◌, refl, sym, ap, subst, ◌∙◌}
use mathlib.Core.Logic.{◌⊎◌, inl, inr}
use mathlib.Core.List.{List, [], ◌∷◌}
use lib.ListN.{length, drop}
use Rattle.bools.proofs.OrderLaws.{lt-or-le}
use Rattle.fields.specs.declared.fault.Fault.{Fault}
use Rattle.fields.specs.declared.fault.Fault.TheVariants.{Table, SetBench}
use Rattle.fields.specs.Contents.{Contents}
use Rattle.frame.proofs.AcceptedLaws.{accepted_sound}
use Rattle.day.specs.Day.{day_of}
use Rattle.demand.specs.Demand.{SoundLong}
use Rattle.answers.specs.declared.answer.LongAnswer.{LongAnswer}
use Rattle.answers.specs.declared.check.SetAnswer.{SetAnswer}
use Rattle.answers.specs.declared.check.SetAnswer.TheVariants.{Passed, Long, NotPassed, Fault as Faulty}
use Rattle.blocking.specs.Claim.{SheetRefused, OneCase}
use Rattle.set_check.specs.SetClaim.{OneOfThree, it_passed, it_is_long, it_did_not_pass, SetClaim}
use Rattle.set_check.proofs.SetLaws.{set_claim}
use Rattle.tables.specs.Tables.{entry_of, room_of, put_numbers}
use Rattle.tables.specs.Words.{fault_word}
use Rattle.tables.proofs.EntryLaws.{Fit, entry_put, later_kept}
use Rattle.tables.proofs.NumberSteps.{length-put_numbers, put_nothing}
use Rattle.tables.proofs.WordLaws.{fault_word_large}
use Rattle.door.proofs.RoomLaws.{one_case_of}
use Rattle.set_promise.specs.SetDoor.{door_set, set_word, set_numbers, SetCalled}
use Rattle.set_promise.specs.SetDoorClaim.{ShortForSet, RoomForSet, CanCheckSet, JudgedAt, SetDoorClaim}
use Rattle.set_promise.proofs.SetReplies.{door_refused, door_short, door_checked}

-- ── the three kinds of calls ──

pub one_case : (s numbers : List ℕ) → OneCase (SheetRefused s) (ShortForSet s numbers) (CanCheckSet s numbers)
one_case s numbers =
    one_case_of s (λ c. length numbers < 8) (RoomForSet s numbers)
    (λ c e. elim (lt-or-le (length numbers) 8) [
      | inl few ↦ inl (omega arith)
      | inr room ↦ inr (record { sheet_accepted = e; one_number = omega arith })
    ])
    (λ c t. t.sheet_accepted) (λ c short t. omega (arith, t.one_number))

-- ── what a word says ──

word_passed : (a : SetAnswer) → set_word a ≡ 1 → a ≡ Passed
word_passed Passed w = refl
word_passed (Long l) w = absurd (omega arith)
word_passed NotPassed w = absurd (omega arith)
word_passed (Faulty f) w = absurd (omega (arith, fault_word_large f))

word_long : (a : SetAnswer) → set_word a ≡ 2 → (l : LongAnswer) × (a ≡ Long l)
word_long Passed w = absurd (omega arith)
word_long (Long l) w = (l, refl)
word_long NotPassed w = absurd (omega arith)
word_long (Faulty f) w = absurd (omega (arith, fault_word_large f))

word_not_passed : (a : SetAnswer) → set_word a ≡ 0 → a ≡ NotPassed
word_not_passed Passed w = absurd (omega arith)
word_not_passed (Long l) w = absurd (omega arith)
word_not_passed NotPassed w = refl
word_not_passed (Faulty f) w = absurd (omega (arith, fault_word_large f))

three_words : {a : SetAnswer} → OneOfThree a → (set_word a ≡ 0) ⊎ ((set_word a ≡ 1) ⊎ (set_word a ≡ 2))
three_words it_passed = inr (inl refl)
three_words (it_is_long l) = inr (inr refl)
three_words it_did_not_pass = inl refl

-- ── one number in the answer's table ──

pub number_put : (n : ℕ) (numbers : List ℕ) → n < 2 ^ 64 → entry_of (put_numbers (n ∷ []) numbers) 0 ≡ n
number_put n numbers small = entry_put (n ∷ []) numbers 0 fits (omega arith)
  where
    fits : Fit (n ∷ [])
    fits zero l = small
    fits (suc i) l = absurd (omega arith)

pub one_kept : (ns numbers : List ℕ) → length ns ≡ 1 → 8 ≤ length numbers
    → (drop 8 (put_numbers ns numbers) ≡ drop 8 numbers) × (length (put_numbers ns numbers) ≡ length numbers)
one_kept ns numbers e room = (later_kept ns numbers 1 e, length-put_numbers ns numbers (omega arith))

kept_by : {a : SetAnswer} (numbers : List ℕ) → OneOfThree a → 8 ≤ length numbers
    → (drop 8 (put_numbers (set_numbers a) numbers) ≡ drop 8 numbers)
    × (length (put_numbers (set_numbers a) numbers) ≡ length numbers)
kept_by numbers it_passed room = one_kept _ numbers refl room
kept_by numbers (it_is_long l) room = one_kept _ numbers refl room
kept_by numbers it_did_not_pass room = one_kept _ numbers refl room

-- ── the claim ──

module _ (s : List ℕ) (set : ℕ) (numbers : List ℕ) (small : set < 2 ^ 64) where
  abbrev answer : SetAnswer
  answer = door_set s set (room_of numbers)

  abbrev after : SetAnswer → List ℕ
  after a = put_numbers (set_numbers a) numbers

  fault-after : (f : Fault) → answer ≡ Faulty f → (set_word answer ≡ fault_word f) × (after answer ≡ numbers)
  fault-after f e = (ap set_word e, ap after e ∙ put_nothing numbers)

  -- With room the answer is that of the check.
  claimed : {c : Contents} → RoomForSet s numbers c → SetClaim s set answer
  claimed t =
      subst (SetClaim s set) (sym (door_checked s set (room_of numbers) (omega (arith, t.one_number))))
      (set_claim s set small)

  long_after : (c : Contents) → JudgedAt s set numbers c → set_word answer ≡ 2
      → SoundLong (day_of c) (entry_of (after answer) 0)
  long_after c J w =
      let (l, e) = word_long answer w in
      let right = (claimed J.room).long_right c J.judged l e in
      let few = (accepted_sound s c J.judged.sheet_accepted).at_most_512_jobs in
      let there : entry_of (after answer) 0 ≡ l.job =
      ap (λ (a : SetAnswer). entry_of (after a) 0) e
      ∙ number_put l.job numbers (omega (arith, right.is_long.is_job, few)) in
      subst (SoundLong (day_of c)) (sym there) right

  zero-after : (set_word answer ≡ 0) ⊎ (set_word answer ≡ 1) → entry_of (after answer) 0 ≡ 0
  zero-after (inl w) =
      ap (λ (a : SetAnswer). entry_of (after a) 0) (word_not_passed answer w) ∙ number_put 0 numbers (omega arith)
  zero-after (inr w) =
      ap (λ (a : SetAnswer). entry_of (after a) 0) (word_passed answer w) ∙ number_put 0 numbers (omega arith)

  given_claim : SetDoorClaim s set numbers (set_word answer) (after answer)
  given_claim =
      record {
        one_case = one_case s numbers;
        sheet_refused = λ f e. fault-after f (door_refused s set (room_of numbers) f e);
        table_short = λ c e few. fault-after (Table 0) (door_short s set (room_of numbers) c e (omega (arith, few)));
        empty_set = λ c t none.
            fault-after (SetBench 0) ((claimed t).empty_set c t.sheet_accepted none);
        foreign_bench = λ c t v p above lower.
            fault-after (SetBench v) ((claimed t).foreign_bench c t.sheet_accepted v p above lower);
        one_of_three = λ c J. three_words ((claimed J.room).one_of_three c J.judged);
        long_right = long_after;
        long_given = λ c J j L. ap set_word ((claimed J.room).long_given c J.judged j L).1;
        passed_fits = λ c J w. (claimed J.room).passed_fits c J.judged (word_passed answer w);
        not_passed_fits = λ c J w. (claimed J.room).not_passed_fits c J.judged (word_not_passed answer w);
        passed_blocking = λ c J w. (claimed J.room).passed_blocking c J.judged (word_passed answer w);
        blocking_passed = λ c J fits B. ap set_word ((claimed J.room).blocking_passed c J.judged fits B);
        not_passed_open = λ c J w. (claimed J.room).not_passed_open c J.judged (word_not_passed answer w);
        over_after_passed = λ c J w. (claimed J.room).over_after_passed c J.judged (word_passed answer w);
        over_after_long = λ c J w.
            let (l, e) = word_long answer w in (claimed J.room).over_after_long c J.judged l e;
        zero_unless_long = λ c J w. zero-after w;
        later_numbers_kept = λ c J.
            kept_by numbers ((claimed J.room).one_of_three c J.judged) J.room.one_number;
      }

  pub door_claim : {r : ℕ} {numbers' : List ℕ} → SetCalled answer r numbers numbers'
      → SetDoorClaim s set numbers r numbers'
  door_claim called = rw (called.word, called.new_numbers) given_claim

  pub with_claim : {r : ℕ} {numbers' : List ℕ} → SetCalled answer r numbers numbers'
      → SetCalled answer r numbers numbers' × SetDoorClaim s set numbers r numbers'
  with_claim called = (called, door_claim called)
