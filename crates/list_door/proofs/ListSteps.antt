-- The check of a list through the door, from what the calls ensure: what is returned, and the answer's table after it.
--     short_called          without room for the answer
--     passed_called, not_passed_called, fault_called    with room, by the answer
use Prim.Native.Nat.{ℕ, ◌≤◌, ◌<◌}
use native.Mathlib.Omega.{arith}
use mathlib.Core.Path.{◌≡◌, refl, sym, ap, ◌∙◌}
use mathlib.Core.List.{List, [], ◌∷◌}
use lib.ListN.{length, take}
use Rattle.fields.specs.declared.fault.Fault.{Fault}
use Rattle.frame.specs.Reading.{read_sheet}
use Rattle.answers.specs.declared.check.ListAnswer.{ListAnswer}
use Rattle.answers.specs.declared.check.ListAnswer.TheVariants.{Passed, NotPassed, Fault as Faulty}
use Rattle.answers.specs.declared.check.ListPassed.{ListPassed}
use Rattle.list_check.specs.ListCheck.{check_list}
use Rattle.tables.specs.Tables.{numbers_of, room_of, put_numbers, put_fitting}
use Rattle.tables.specs.Words.{fault_word}
use Rattle.tables.proofs.NumberSteps.{put_nothing, fitting_all}
use Rattle.list_promise.specs.ListDoor.{door_list, short_fault, list_word, list_numbers, ListCalled}
use Rattle.list_promise.specs.ListDoorClaim.{ListDoorClaim}
use Rattle.list_promise.proofs.ListDemand.{with_claim}
use Rattle.list_promise.proofs.ListReplies.{door_faulty, door_checked, list_enough}

module _ (s places numbers : List ℕ) where
  abbrev answer : ListAnswer
  answer = door_list s (numbers_of places) (room_of numbers)

  abbrev Promised : ℕ → List ℕ → Type 0
  Promised r numbers' = ListCalled answer r numbers numbers' × ListDoorClaim s places numbers r numbers'

  called : (a : ListAnswer) {word : ℕ} {numbers' : List ℕ} → a ≡ answer → word ≡ list_word a
      → numbers' ≡ put_numbers (list_numbers a) numbers → Promised word numbers'
  called a is w put =
      with_claim s places numbers (record {
        word = w ∙ ap list_word is;
        new_numbers = put ∙ ap (λ (x : ListAnswer). put_numbers (list_numbers x) numbers) is;
      })

  pub short_called : length numbers < 16 → {f : Fault} {word : ℕ} → f ≡ short_fault (read_sheet s) → word ≡ fault_word f
      → Promised word numbers
  short_called few {f} e w =
      called (Faulty f) (ap Faulty e ∙ sym (door_faulty s (numbers_of places) (room_of numbers) (omega arith))) w
      (sym (put_nothing numbers))

  -- The list that was checked: the first 513 entries.
  module _ (room : 16 ≤ length numbers) {list : List ℕ} (el : list ≡ take 513 (numbers_of places))
      {a : ListAnswer} (ea : a ≡ check_list s list) where
    same_answer : a ≡ answer
    same_answer =
        ea ∙ ap (check_list s) el ∙ list_enough s (numbers_of places)
        ∙ sym (door_checked s (numbers_of places) (room_of numbers) (omega arith))

    pub passed_called : {p : ListPassed} {numbers' : List ℕ} → a ≡ Passed p
        → numbers' ≡ put_fitting (p.largest ∷ p.fullest ∷ []) numbers → Promised 1 numbers'
    passed_called {p} e put =
        called (Passed p) (sym e ∙ same_answer) refl
        (put ∙ fitting_all (p.largest ∷ p.fullest ∷ []) numbers (omega arith))

    pub not_passed_called : {numbers' : List ℕ} → a ≡ NotPassed → numbers' ≡ put_fitting (0 ∷ 0 ∷ []) numbers
        → Promised 0 numbers'
    not_passed_called e put =
        called NotPassed (sym e ∙ same_answer) refl (put ∙ fitting_all (0 ∷ 0 ∷ []) numbers (omega arith))

    pub fault_called : {f : Fault} {word : ℕ} → a ≡ Faulty f → word ≡ fault_word f → Promised word numbers
    fault_called {f} e w = called (Faulty f) (sym e ∙ same_answer) w (sym (put_nothing numbers))
