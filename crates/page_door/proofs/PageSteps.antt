-- The check of a page through the door, from what the calls ensure: what is returned, and the answer's table after it.
--     short_called          without room for the answer
--     empty, room           an array of 65 numbers before a load
--     answer_called, fault_called     with room, by the answer
use Prim.Native.Nat.{ℕ, ◌≤◌, ◌<◌}
use native.Mathlib.Omega.{arith}
use mathlib.Core.Path.{◌≡◌, sym, ap, ◌∙◌}
use mathlib.Core.List.{List, [], ◌∷◌}
use lib.ListN.{length, get_or, take, replicate, length-replicate}
use Rattle.fields.specs.declared.fault.Fault.{Fault}
use Rattle.frame.specs.Reading.{read_sheet}
use Rattle.answers.specs.declared.check.PageAnswer.{PageAnswer}
use Rattle.answers.specs.declared.check.PageAnswer.TheVariants.{Fault as Faulty}
use Rattle.page_check.specs.PageCheck.{check_page}
use Rattle.page_check.proofs.PageFront.{page_enough}
use Rattle.tables.specs.Tables.{numbers_of, room_of, put_entry, put_numbers}
use Rattle.tables.specs.Words.{fault_word}
use Rattle.tables.proofs.NumberSteps.{put_nothing}
use Rattle.list_promise.specs.ListDoor.{short_fault}
use Rattle.set_door.proofs.SetSteps.{one_put}
use Rattle.page_promise.specs.PageDoor.{door_page, page_word, page_numbers, PageCalled}
use Rattle.page_promise.specs.PageDoorClaim.{PageDoorClaim}
use Rattle.page_promise.proofs.PageDemand.{with_claim}
use Rattle.page_promise.proofs.PageReplies.{door_faulty, door_checked}

abbrev pub empty : List ℕ
empty = replicate 65 0

pub room : length empty ≡ 65
room = length-replicate {A = ℕ} 65 0

module _ (s page numbers : List ℕ) where
  abbrev answer : PageAnswer
  answer = door_page s (numbers_of page) (room_of numbers)

  abbrev pub Promised : ℕ → List ℕ → Type 0
  Promised r numbers' = PageCalled answer r numbers numbers' × PageDoorClaim s page numbers r numbers'

  called : (a : PageAnswer) {word : ℕ} {numbers' : List ℕ} → a ≡ answer → word ≡ page_word a
      → numbers' ≡ put_numbers (page_numbers a) numbers → Promised word numbers'
  called a is w put =
      with_claim s page numbers (record {
        word = w ∙ ap page_word is;
        new_numbers = put ∙ ap (λ (x : PageAnswer). put_numbers (page_numbers x) numbers) is;
      })

  pub short_called : length numbers < 8 → {f : Fault} {word : ℕ} → f ≡ short_fault (read_sheet s) → word ≡ fault_word f
      → Promised word numbers
  short_called few {f} e w =
      called (Faulty f) (ap Faulty e ∙ sym (door_faulty s (numbers_of page) (room_of numbers) (omega arith))) w
      (sym (put_nothing numbers))

  -- The sets that are checked are the first 65.
  module _ (enough : 8 ≤ length numbers) {loaded : List ℕ} (front : loaded ≡ take 65 (numbers_of page)) {a : PageAnswer}
      (ea : a ≡ check_page s loaded) where
    same_answer : a ≡ answer
    same_answer =
        ea ∙ ap (check_page s) front ∙ page_enough s (numbers_of page)
        ∙ sym (door_checked s (numbers_of page) (room_of numbers) (omega arith))

    -- An answer that is no fault: its word, and its number.
    pub answer_called : (x : PageAnswer) {r : ℕ × ℕ} {numbers' : List ℕ} → a ≡ x → r ≡ (page_word x, get_or (page_numbers x) 0 0)
        → page_numbers x ≡ get_or (page_numbers x) 0 0 ∷ [] → numbers' ≡ put_entry numbers 0 r.1 → Promised r.0 numbers'
    answer_called x e both one put =
        called x (sym e ∙ same_answer) (ap (λ (p : ℕ × ℕ). p.0) both)
        (put ∙ ap (λ (p : ℕ × ℕ). put_entry numbers 0 p.1) both
        ∙ one_put numbers (get_or (page_numbers x) 0 0) enough ∙ ap (λ (ns : List ℕ). put_numbers ns numbers) (sym one))

    pub fault_called : {f : Fault} {word : ℕ} → a ≡ Faulty f → word ≡ fault_word f → Promised word numbers
    fault_called {f} e w = called (Faulty f) (sym e ∙ same_answer) w (sym (put_nothing numbers))
