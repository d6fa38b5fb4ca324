-- What is promised of the check of a page over the bytes of the door (specs/PageDoorClaim), from the equation that a
-- call ensures (specs/PageDoor) and what is promised of the answer (page_check's specs/PageClaim).
--     door_claim            the claim holds of what a call returns and leaves in the answer's table
--     with_claim            the equation, and the claim with it
use Prim.Native.Nat.{ℕ, ◌+◌, ◌/◌, ◌≤◌, ◌<◌}
use native.Mathlib.Omega.{arith}
use mathlib.Core.Path.{◌≡◌, refl, sym, ap, subst, ◌∙◌}
use mathlib.Core.Logic.{◌⊎◌, inl, inr}
use mathlib.Core.List.{List}
use lib.ListN.{length, drop}
use Rattle.fields.specs.declared.fault.Fault.{Fault}
use Rattle.fields.specs.declared.fault.Fault.TheVariants.{Table, SetBench, SharedBench}
use Rattle.fields.specs.Contents.{Contents}
use Rattle.frame.proofs.AcceptedLaws.{accepted_sound}
use Rattle.day.specs.Day.{day_of}
use Rattle.demand.specs.Demand.{SoundLong, EachFits, Blocking}
use Rattle.unions.specs.Unions.{union_of}
use Rattle.answers.specs.declared.answer.LongAnswer.{LongAnswer}
use Rattle.answers.specs.declared.check.PageAnswer.{PageAnswer}
use Rattle.answers.specs.declared.check.PageAnswer.TheVariants.{Passed, Long, NotPassed, Fault as Faulty}
use Rattle.page_check.specs.PageClaim.{on_page, FirstOpen, OneOfThree, it_passed, it_is_long, it_did_not_pass, PageClaim}
use Rattle.page_check.proofs.PageLaws.{page_claim}
use Rattle.page_check.proofs.PageFront.{few_sets}
use Rattle.tables.specs.Tables.{entries_of, entry_of, numbers_of, room_of, put_numbers}
use Rattle.tables.specs.Words.{fault_word}
use Rattle.tables.proofs.NumberSteps.{put_nothing}
use Rattle.tables.proofs.TableSteps.{length-numbers_of}
use Rattle.tables.proofs.WordLaws.{fault_word_large}
use Rattle.set_promise.specs.SetDoorClaim.{RoomForSet}
use Rattle.set_promise.proofs.SetDemand.{one_case, number_put, one_kept}
use Rattle.page_promise.specs.PageDoor.{door_page, page_word, page_numbers, PageCalled}
use Rattle.page_promise.specs.PageDoorClaim.{JudgedPageAt, PageDoorClaim}
use Rattle.page_promise.proofs.PageReplies.{door_refused, door_short, door_checked}

-- ── what a word says ──

word_passed : (a : PageAnswer) → page_word a ≡ 1 → a ≡ Passed
word_passed Passed w = refl
word_passed (Long l) w = absurd (omega arith)
word_passed (NotPassed i) w = absurd (omega arith)
word_passed (Faulty f) w = absurd (omega (arith, fault_word_large f))

word_long : (a : PageAnswer) → page_word a ≡ 2 → (l : LongAnswer) × (a ≡ Long l)
word_long Passed w = absurd (omega arith)
word_long (Long l) w = (l, refl)
word_long (NotPassed i) w = absurd (omega arith)
word_long (Faulty f) w = absurd (omega (arith, fault_word_large f))

word_not_passed : (a : PageAnswer) → page_word a ≡ 0 → (i : ℕ) × (a ≡ NotPassed i)
word_not_passed Passed w = absurd (omega arith)
word_not_passed (Long l) w = absurd (omega arith)
word_not_passed (NotPassed i) w = (i, refl)
word_not_passed (Faulty f) w = absurd (omega (arith, fault_word_large f))

three_words : {a : PageAnswer} → OneOfThree a → (page_word a ≡ 0) ⊎ ((page_word a ≡ 1) ⊎ (page_word a ≡ 2))
three_words it_passed = inr (inl refl)
three_words (it_is_long l) = inr (inr refl)
three_words (it_did_not_pass i) = inl refl

word_of_three : (a : PageAnswer) → (page_word a ≡ 0) ⊎ ((page_word a ≡ 1) ⊎ (page_word a ≡ 2)) → OneOfThree a
word_of_three Passed w = it_passed
word_of_three (Long l) w = it_is_long l
word_of_three (NotPassed i) w = it_did_not_pass i
word_of_three (Faulty f) (inl w) = absurd (omega (arith, fault_word_large f))
word_of_three (Faulty f) (inr (inl w)) = absurd (omega (arith, fault_word_large f))
word_of_three (Faulty f) (inr (inr w)) = absurd (omega (arith, fault_word_large f))

kept_by : {a : PageAnswer} (numbers : List ℕ) → OneOfThree a → 8 ≤ length numbers
    → (drop 8 (put_numbers (page_numbers a) numbers) ≡ drop 8 numbers)
    × (length (put_numbers (page_numbers a) numbers) ≡ length numbers)
kept_by numbers it_passed room = one_kept _ numbers refl room
kept_by numbers (it_is_long l) room = one_kept _ numbers refl room
kept_by numbers (it_did_not_pass i) room = one_kept _ numbers refl room

-- ── the claim ──

module _ (s page numbers : List ℕ) where
  abbrev sets : List ℕ
  sets = numbers_of page

  abbrev answer : PageAnswer
  answer = door_page s sets (room_of numbers)

  abbrev after : PageAnswer → List ℕ
  after a = put_numbers (page_numbers a) numbers

  -- As many sets as entries.
  sets-are : length sets ≡ entries_of page
  sets-are = length-numbers_of page

  some_set : 0 < length page → 0 < length sets
  unfolding entries_of
  some_set l = omega (arith, sets-are)

  no_set : length page ≡ 0 → length sets ≡ 0
  unfolding entries_of
  no_set e = sets-are ∙ ap (λ (n : ℕ). (n + 7) / 8) e

  fault-after : (f : Fault) → answer ≡ Faulty f → (page_word answer ≡ fault_word f) × (after answer ≡ numbers)
  fault-after f e = (ap page_word e, ap after e ∙ put_nothing numbers)

  -- With room the answer is that of the check.
  claimed : {c : Contents} → RoomForSet s numbers c → PageClaim s sets answer
  claimed t =
      subst (PageClaim s sets) (sym (door_checked s sets (room_of numbers) (omega (arith, t.one_number))))
      (page_claim s sets)

  long_after : (c : Contents) → JudgedPageAt s page numbers c → page_word answer ≡ 2
      → SoundLong (day_of c) (entry_of (after answer) 0)
  long_after c J w =
      let (l, e) = word_long answer w in
      let right = (claimed J.room).long_right c J.judged l e in
      let few = (accepted_sound s c J.judged.sheet_accepted).at_most_512_jobs in
      let there : entry_of (after answer) 0 ≡ l.job =
      ap (λ (a : PageAnswer). entry_of (after a) 0) e
      ∙ number_put l.job numbers (omega (arith, right.is_long.is_job, few)) in
      subst (SoundLong (day_of c)) (sym there) right

  -- A set that is named is one of at most 64.
  named_put : (c : Contents) → JudgedPageAt s page numbers c → (i : ℕ) → FirstOpen (day_of c) sets i
      → answer ≡ NotPassed i → entry_of (after answer) 0 ≡ i
  named_put c J i F e =
      ap (λ (a : PageAnswer). entry_of (after a) 0) e
      ∙ number_put i numbers
      (omega (arith, F.on_the_page, few_sets c.head.benches sets J.judged.faultless))

  named-after : (c : Contents) → JudgedPageAt s page numbers c → page_word answer ≡ 0
      → FirstOpen (day_of c) sets (entry_of (after answer) 0)
  named-after c J w =
      let (i, e) = word_not_passed answer w in
      let F = (claimed J.room).named_is_first c J.judged i e in
      subst (FirstOpen (day_of c) sets) (sym (named_put c J i F e)) F

  first-after : (c : Contents) → JudgedPageAt s page numbers c → EachFits (day_of c) → (i : ℕ)
      → FirstOpen (day_of c) sets i → (page_word answer ≡ 0) × (entry_of (after answer) 0 ≡ i)
  first-after c J fits i F =
      let e = (claimed J.room).first_is_named c J.judged fits i F in
      (ap page_word e, named_put c J i F e)

  not_passed_fit : (c : Contents) → JudgedPageAt s page numbers c → page_word answer ≡ 0 → EachFits (day_of c)
  not_passed_fit c J w =
      let (i, e) = word_not_passed answer w in (claimed J.room).not_passed_fits c J.judged i e

  union-after : (c : Contents) → RoomForSet s numbers c → page_word answer ≡ 1 → 0 < length page
      → Blocking (day_of c) (union_of (entries_of page) (on_page sets))
  union-after c t w some =
      subst (λ (n : ℕ). Blocking (day_of c) (union_of n (on_page sets))) sets-are
      ((claimed t).union_blocks c t.sheet_accepted (word_passed answer w) (some_set some))

  given_claim : PageDoorClaim s page numbers (page_word answer) (after answer)
  given_claim =
      record {
        one_case = one_case s numbers;
        sheet_refused = λ f e. fault-after f (door_refused s sets (room_of numbers) f e);
        table_short = λ c e few. fault-after (Table 0) (door_short s sets (room_of numbers) c e (omega (arith, few)));
        improper_set = λ c t i l F bad.
            fault-after (SetBench i)
            ((claimed t).improper_set c t.sheet_accepted i (omega (arith, sets-are)) F bad);
        shared_bench = λ c t i l F good shared.
            fault-after (SharedBench i)
            ((claimed t).shared_bench c t.sheet_accepted i (omega (arith, sets-are)) F good shared);
        one_of_three = λ c J. three_words ((claimed J.room).one_of_three c J.judged);
        three_judged = λ c t w.
            record {
              room = t;
              judged = (claimed t).three_judged c t.sheet_accepted (word_of_three answer w);
            };
        long_right = long_after;
        long_given = λ c J j L. ap page_word ((claimed J.room).long_given c J.judged j L).1;
        passed_fits = λ c t w. (claimed t).passed_fits c t.sheet_accepted (word_passed answer w);
        not_passed_fits = not_passed_fit;
        passed_good = λ c t w. (claimed t).passed_good c t.sheet_accepted (word_passed answer w);
        good_passed = λ c t fits G. ap page_word ((claimed t).good_passed c t.sheet_accepted fits G);
        named_is_first = named-after;
        first_is_named = first-after;
        empty_page = λ c t fits e. ap page_word ((claimed t).empty_page c t.sheet_accepted fits (no_set e));
        union_blocks = union-after;
        over_after_passed = λ c t w some.
            (claimed t).over_after_passed c t.sheet_accepted (word_passed answer w) (some_set some);
        over_after_long = λ c t w.
            let (l, e) = word_long answer w in (claimed t).over_after_long c t.sheet_accepted l e;
        zero_after_passed = λ c t w.
            ap (λ (a : PageAnswer). entry_of (after a) 0) (word_passed answer w) ∙ number_put 0 numbers (omega arith);
        later_numbers_kept = λ c J.
            kept_by numbers ((claimed J.room).one_of_three c J.judged) J.room.one_number;
      }

  pub door_claim : {r : ℕ} {numbers' : List ℕ} → PageCalled answer r numbers numbers'
      → PageDoorClaim s page numbers r numbers'
  door_claim called = rw (called.word, called.new_numbers) given_claim

  pub with_claim : {r : ℕ} {numbers' : List ℕ} → PageCalled answer r numbers numbers'
      → PageCalled answer r numbers numbers' × PageDoorClaim s page numbers r numbers'
  with_claim called = (called, door_claim called)
