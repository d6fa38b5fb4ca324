-- The best target through the door, from what the search and the functions that put numbers ensure.
--     best_called, fault_called     what is returned, and the tables after it: after a best target; after a fault
use Prim.Native.Nat.{ℕ, ◌≤◌, min}
use native.Mathlib.Omega.{arith}
use mathlib.Core.Path.{◌≡◌, sym, ap, ap₂, ◌∙◌}
use mathlib.Core.Logic.{inl, inr}
use mathlib.Core.Bool.{Bool, true, false, cond}
use mathlib.Core.List.{List, ◌++◌}
use lib.ListN.{length, take, drop}
use lib.Dec.{ltb}
use Rattle.bools.proofs.BoolLaws.{clash}
use Rattle.fields.specs.declared.fault.Fault.{Fault}
use Rattle.answers.specs.declared.best.BestAnswer.{BestAnswer}
use Rattle.answers.specs.declared.best.BestAnswer.TheVariants.{Best, Fault as Faulty}
use Rattle.answers.specs.declared.best.BestFilled.{BestFilled}
use Rattle.answers.specs.declared.best.BestPlan.{BestPlan}
use Rattle.answers.specs.Answers.{front}
use Rattle.answers.specs.BestAnswers.{BestReply, BestAnswered}
use Rattle.algorithm.specs.Best.{best_for}
use Rattle.tables.specs.Tables.{room_of, put_numbers, put_fitting}
use Rattle.tables.specs.Words.{fault_word}
use Rattle.tables.proofs.LentSteps.{left_put}
use Rattle.tables.proofs.NumberSteps.{put_nothing, fitting_all}
use Rattle.best_promise.specs.BestDoor.{door_best, best_word, best_numbers, BestCalled}
use Rattle.best_promise.proofs.BestReplies.{best_capped, fault_or_room, places_few, loads_few}

abbrev is_fault : BestAnswer → Bool
is_fault (Best b) = false
is_fault (Faulty f) = true

-- The search got room for np places and nl loads.
module _ (s places loads numbers : List ℕ) {np nl : ℕ}
    (ep : np ≡ min (room_of places) 512) (el : nl ≡ cond (ltb (room_of numbers) 5) 0 (min (room_of loads) 64))
    {r : BestFilled} {p₀ l₀ p l : List ℕ} (answered : BestAnswered (best_for s np nl) r p₀ l₀ p l) where
  abbrev door : BestReply
  door = door_best s (room_of places) (room_of loads) (room_of numbers)

  reply_is : best_for s np nl ≡ door
  reply_is = ap₂ (best_for s) ep el ∙ best_capped s (room_of places) (room_of loads) (room_of numbers)

  same_answer : r.answer ≡ door.answer
  same_answer = answered.answer ∙ ap (λ (a : BestReply). a.answer) reply_is

  places_count : r.places ≡ length door.places
  places_count = answered.places_written ∙ ap (λ (a : BestReply). length a.places) reply_is

  loads_count : r.loads ≡ length door.loads
  loads_count = answered.loads_written ∙ ap (λ (a : BestReply). length a.loads) reply_is

  -- What stands behind the parts that were lent, and both tables after what was written is put there.
  module _ (places-rest loads-rest : List ℕ) {places' loads' : List ℕ}
      (put-places : places' ≡ put_fitting (take r.places (p ++ places-rest)) places)
      (put-loads : loads' ≡ put_fitting (take r.loads (l ++ loads-rest)) loads) where
    places_put : places' ≡ put_numbers door.places places
    places_put =
        let few = (places_few s (room_of places) (room_of loads) (room_of numbers)).0 in
        left_put door.places (drop (length door.places) p₀) places-rest
        (answered.new_places ∙ ap (λ (a : BestReply). front a.places p₀) reply_is)
        places_count places (omega arith) put-places

    loads_put : loads' ≡ put_numbers door.loads loads
    loads_put =
        let few = (loads_few s (room_of places) (room_of loads) (room_of numbers)).0 in
        left_put door.loads (drop (length door.loads) l₀) loads-rest
        (answered.new_loads ∙ ap (λ (a : BestReply). front a.loads l₀) reply_is)
        loads_count loads (omega arith) put-loads

    called : {a : BestAnswer} {word : ℕ} {numbers' : List ℕ} → r.answer ≡ a → word ≡ best_word a
        → numbers' ≡ put_numbers (best_numbers a) numbers
        → BestCalled door word places loads numbers places' loads' numbers'
    called {a} e w put =
        let is : a ≡ door.answer = sym e ∙ same_answer in
        record {
          word = w ∙ ap best_word is;
          new_places = places_put;
          new_loads = loads_put;
          new_numbers = put ∙ ap (λ (x : BestAnswer). put_numbers (best_numbers x) numbers) is;
        }

    -- No fault: then there is room for five numbers.
    numbers_room : {b : BestPlan} → r.answer ≡ Best b → 40 ≤ length numbers
    numbers_room e = elim (fault_or_room s (room_of places) (room_of loads) (room_of numbers)) [
      | inl f ↦
          let faulty = ap (λ (a : BestReply). a.answer) f.replies in
          clash (ap is_fault faulty) (ap is_fault (sym same_answer ∙ e))
      | inr y ↦ let five = y.room.numbers_fit in omega arith
    ]

    pub best_called : {b : BestPlan} {word : ℕ} {numbers' : List ℕ} → r.answer ≡ Best b → word ≡ best_word (Best b)
        → numbers' ≡ put_fitting (best_numbers (Best b)) numbers
        → BestCalled door word places loads numbers places' loads' numbers'
    best_called {b} e w put = called e w (put ∙ fitting_all (best_numbers (Best b)) numbers (numbers_room e))

    pub fault_called : {f : Fault} {word : ℕ} → r.answer ≡ Faulty f → word ≡ fault_word f
        → BestCalled door word places loads numbers places' loads' numbers
    fault_called e w = called e w (sym (put_nothing numbers))
