-- By cases on the answer (BestSteps); the claim follows from the equation (BestDemand).
-- The search gets the front of each array, as long as the room for it; what it has written goes to the tables.
use Prim.Native.Nat.{ℕ, ◌≤◌, min}
use native.Mathlib.Omega.{arith}
use mathlib.Core.Path.{◌≡◌, refl, sym, ◌∙◌}
use mathlib.Core.Bool.{Bool, true, false, cond}
use mathlib.Core.List.{List}
use lib.Dec.{ltb}
use lib.ListN.{length, take, drop, replicate}
use Rattle.tables.specs.Tables.{room_of}
use Rattle.tables.proofs.LentSteps.{front_length}
use Rattle.best_promise.proofs.BestDemand.{with_claim}
use Rattle.best_door.proofs.BestSteps.{best_called, fault_called}
use Rattle.best_door.proofs.call.best.Goals as goal

few-handed : (b : Bool) (n : ℕ) → n ≤ 64 → cond b 0 n ≤ 64
few-handed true n h = omega arith
few-handed false n h = h

module _ (n : ℕ) (places : List ℕ) (e : n ≡ min (room_of places) 512) where
  -- The room that is handed on: at most 512 places,
  places-fit : n ≤ 512
  places-fit = omega arith

  places-handed : length (take n (replicate {A = ℕ} 512 0)) ≡ min (room_of places) 512
  places-handed = sym (front_length n (replicate 512 0) places-fit) ∙ e

module _ (n : ℕ) (loads answer : List ℕ) (e : n ≡ cond (ltb (room_of answer) 5) 0 (min (room_of loads) 64)) where
  -- and at most 64 loads.
  loads-fit : n ≤ 64
  loads-fit = rw e (few-handed (ltb (room_of answer) 5) (min (room_of loads) 64) (omega arith))

  loads-handed : length (take n (replicate {A = ℕ} 64 0)) ≡ cond (ltb (room_of answer) 5) 0 (min (room_of loads) 64)
  loads-handed = sym (front_length n (replicate 64 0) loads-fit) ∙ e

pub returns-in-Best : goal.returns-in-Best
returns-in-Best c =
    let whole = with_claim c.args.sheet.now c.args.places.now c.args.loads.now c.args.answer.now
    (best_called c.args.sheet.now c.args.places.now c.args.loads.now c.args.answer.now
    (places-handed _ c.args.places.now c.room-np.ensures) (loads-handed _ c.args.loads.now c.args.answer.now c.loads_room-nl.ensures)
    c.best-filled.ensures.equation
    (drop c.room-np.result (replicate 512 0)) (drop c.loads_room-nl.result (replicate 64 0))
    c.put_front.ensures c.put_front-2.ensures
    c.in-Best.is refl c.put_best.ensures) in
    record { called = whole.0; claim = whole.1 }

pub returns-in-Fault : goal.returns-in-Fault
returns-in-Fault c =
    let whole = with_claim c.args.sheet.now c.args.places.now c.args.loads.now c.args.answer.now
    (fault_called c.args.sheet.now c.args.places.now c.args.loads.now c.args.answer.now
    (places-handed _ c.args.places.now c.room-np.ensures) (loads-handed _ c.args.loads.now c.args.answer.now c.loads_room-nl.ensures)
    c.best-filled.ensures.equation
    (drop c.room-np.result (replicate 512 0)) (drop c.loads_room-nl.result (replicate 64 0))
    c.put_front.ensures c.put_front-2.ensures
    c.in-Fault.is c.fault_word.ensures) in
    record { called = whole.0; claim = whole.1 }
