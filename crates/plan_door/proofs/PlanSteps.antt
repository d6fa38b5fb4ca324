-- Planning through the door, from what the planner and the functions that put numbers ensure.
--     answer_capped         with room for at most 512 places and 64 loads the reply is the same, and fault 13 without
--                           room for loads
--     answer_called, fault_called   what is returned, and the tables after it: after one of the three answers; after a
--                                   fault
use Prim.Native.Nat.{ℕ, ◌≤◌, min}
use native.Mathlib.Omega.{arith}
use mathlib.Core.Path.{◌≡◌, sym, ap, ap₂, ◌∙◌}
use mathlib.Core.Logic.{inl, inr}
use mathlib.Core.Bool.{false, cond}
use mathlib.Core.List.{List, ◌++◌}
use lib.ListN.{length, take, drop}
use lib.Dec.{ltb}
use Rattle.bools.proofs.BoolLaws.{clash}
use Rattle.fields.specs.declared.fault.Fault.{Fault}
use Rattle.frame.specs.Reading.{read_sheet}
use Rattle.frame.proofs.Stored.{read_cases}
use Rattle.answers.specs.declared.answer.Answer.{Answer}
use Rattle.answers.specs.declared.answer.Answer.TheVariants.{Plan, Long, None, Fault as Faulty}
use Rattle.answers.specs.declared.answer.Filled.{Filled}
use Rattle.answers.specs.Answers.{Reply, front, Answered}
use Rattle.algorithm.specs.Answer.{answer_for}
use Rattle.tables.specs.Tables.{room_of, put_numbers, put_fitting}
use Rattle.tables.specs.Words.{fault_word}
use Rattle.tables.proofs.LentSteps.{left_put}
use Rattle.tables.proofs.NumberSteps.{put_nothing, fitting_all}
use Rattle.door.specs.PlanDoor.{door_answer, plan_word, answer_numbers, Called}
use Rattle.door.proofs.AnswerLaws.{reply_on, door_refused, door_read, answer_refused, answer_read}
use Rattle.door.proofs.AnswerLaws.{fault_or_room, places_few, loads_few}
use Rattle.door.proofs.PlanLaws.{is_fault}
use Rattle.door.proofs.RoomLaws.{capped}

-- ── the reply ──

pub answer_capped : (s : List ℕ) (np nl na : ℕ)
    → answer_for s (min np 512) (cond (ltb na 3) 0 (min nl 64)) ≡ door_answer s np nl na
answer_capped s np nl na =
    let loads-handed : ℕ = cond (ltb na 3) 0 (min nl 64) in
    elim (read_cases (read_sheet s)) [
      | inl (f, e) ↦ answer_refused s (min np 512) loads-handed f e ∙ sym (door_refused s np nl na f e)
      | inr (c, e) ↦
          answer_read s (min np 512) loads-handed c e
          ∙ ap (reply_on c) (capped 3 s c e np nl na)
          ∙ sym (door_read s np nl na c e)
    ]

at_most_three : (a : Answer) → length (answer_numbers a) ≤ 3
at_most_three (Plan p) = omega arith
at_most_three (Long j) = omega arith
at_most_three (None n) = omega arith
at_most_three (Faulty f) = omega arith

-- ── what the planner leaves in the arrays ──

module _ (s places loads numbers : List ℕ) {np nl : ℕ}
    (ep : np ≡ min (room_of places) 512) (el : nl ≡ cond (ltb (room_of numbers) 3) 0 (min (room_of loads) 64))
    {r : Filled} {p₀ l₀ p l : List ℕ} (answered : Answered (answer_for s np nl) r p₀ l₀ p l) where
  abbrev door : Reply
  door = door_answer s (room_of places) (room_of loads) (room_of numbers)

  reply_is : answer_for s np nl ≡ door
  reply_is = ap₂ (answer_for s) ep el ∙ answer_capped s (room_of places) (room_of loads) (room_of numbers)

  same_answer : r.answer ≡ door.answer
  same_answer = answered.answer ∙ ap (λ (a : Reply). a.answer) reply_is

  places_count : r.places ≡ length door.places
  places_count = answered.places_written ∙ ap (λ (a : Reply). length a.places) reply_is

  loads_count : r.loads ≡ length door.loads
  loads_count = answered.loads_written ∙ ap (λ (a : Reply). length a.loads) reply_is

  -- ── what is returned ──

  -- What stands behind the parts that were lent, and both tables after what was written is put there.
  module _ (places-rest loads-rest : List ℕ) {places' loads' : List ℕ}
      (put-places : places' ≡ put_fitting (take r.places (p ++ places-rest)) places)
      (put-loads : loads' ≡ put_fitting (take r.loads (l ++ loads-rest)) loads) where
    places_put : places' ≡ put_numbers door.places places
    places_put =
        let few = (places_few s (room_of places) (room_of loads) (room_of numbers)).0 in
        left_put door.places (drop (length door.places) p₀) places-rest
        (answered.new_places ∙ ap (λ (a : Reply). front a.places p₀) reply_is)
        places_count places (omega arith) put-places

    loads_put : loads' ≡ put_numbers door.loads loads
    loads_put =
        let few = (loads_few s (room_of places) (room_of loads) (room_of numbers)).0 in
        left_put door.loads (drop (length door.loads) l₀) loads-rest
        (answered.new_loads ∙ ap (λ (a : Reply). front a.loads l₀) reply_is)
        loads_count loads (omega arith) put-loads

    called : {a : Answer} {word : ℕ} {numbers' : List ℕ} → r.answer ≡ a → word ≡ plan_word a
        → numbers' ≡ put_numbers (answer_numbers a) numbers
        → Called door word places loads numbers places' loads' numbers'
    called {a} e w put =
        let is : a ≡ door.answer = sym e ∙ same_answer in
        record {
          word = w ∙ ap plan_word is;
          new_places = places_put;
          new_loads = loads_put;
          new_numbers = put ∙ ap (λ (x : Answer). put_numbers (answer_numbers x) numbers) is;
        }

    -- No fault: then there is room for three numbers.
    numbers_room : {a : Answer} → r.answer ≡ a → is_fault a ≡ false → 24 ≤ length numbers
    numbers_room e fine = elim (fault_or_room s (room_of places) (room_of loads) (room_of numbers)) [
      | inl f ↦
          let faulty = ap (λ (a : Reply). a.answer) f.replies in
          clash (ap is_fault faulty) (ap is_fault (sym same_answer ∙ e) ∙ fine)
      | inr y ↦ let three = y.room.numbers_fit in omega arith
    ]

    pub answer_called : (a : Answer) {word : ℕ} {numbers' : List ℕ} → r.answer ≡ a → is_fault a ≡ false
        → word ≡ plan_word a → numbers' ≡ put_fitting (answer_numbers a) numbers
        → Called door word places loads numbers places' loads' numbers'
    answer_called a e fine w put =
        let three = at_most_three a in
        called e w (put ∙ fitting_all (answer_numbers a) numbers (omega (arith, numbers_room e fine)))

    pub fault_called : {f : Fault} {word : ℕ} → r.answer ≡ Faulty f → word ≡ fault_word f
        → Called door word places loads numbers places' loads' numbers
    fault_called e w = called e w (sym (put_nothing numbers))
