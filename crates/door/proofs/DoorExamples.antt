-- Example 8 of document 01 through the C door, from the bytes of its sheet to the word and the bytes of the three
-- tables: places for 4 jobs, loads for 2 benches, three numbers, so that each table has exactly the needed size.
--     room_exact          these tables are large enough
--     answer_8            the answer to it
--     called_exact        what a call returns, and every byte that it leaves in the tables
--     numbers_short       with one byte less for the answer the call is fault 13, and changes nothing
use Prim.Native.Nat.{ℕ}
use mathlib.Core.Path.{◌≡◌, ap, ◌∙◌}
use mathlib.Core.Logic.{inr}
use mathlib.Core.List.{List, [], ◌∷◌}
use native.Mathlib.Omega.{arith}
use lib.ListN.{replicate}
use Rattle.bits.specs.Little.{little_of, little_all}
use Rattle.fields.specs.declared.fault.Fault.TheVariants.{Table}
use Rattle.answers.specs.Answers.{Reply}
use Rattle.blocking.proofs.ClaimExamples.{contents8, sheet8, reply8, read_8, run-8}
use Rattle.tables.specs.Tables.{put_numbers}
use Rattle.tables.specs.Words.{fault_word}
use Rattle.door.specs.DoorClaim.{RoomFor, AllKept}
use Rattle.door.specs.PlanDoor.{door_answer, answer_numbers, plan_word, Called}
use Rattle.door.proofs.AnswerLaws.{door_read}
use Rattle.door.proofs.DoorDemand.{door_claim}

-- Bytes before the call.
abbrev pub filled : ℕ → List ℕ
filled n = replicate n 165

-- A number of one byte, as an entry before others.
abbrev pub entry : ℕ → List ℕ → List ℕ
entry n rest = n ∷ 0 ∷ 0 ∷ 0 ∷ 0 ∷ 0 ∷ 0 ∷ 0 ∷ rest

abbrev pub pair : ℕ → ℕ → List ℕ
pair a b = entry a (entry b [])

-- The numbers 1, 0, 0, 0 and the loads 6 and 2; largest load 6, 1 move, fullest bench 0.
abbrev pub places_bytes : List ℕ
places_bytes = entry 1 (entry 0 (pair 0 0))

abbrev pub loads_bytes : List ℕ
loads_bytes = pair 6 2

abbrev pub numbers_bytes : List ℕ
numbers_bytes = entry 6 (pair 1 0)

pub room_exact : RoomFor sheet8 (filled 32) (filled 16) (filled 24) contents8
room_exact = record {
  sheet_accepted = read_8;
  place_to_a_job = omega arith;
  load_to_a_bench = omega arith;
  three_numbers = omega arith;
}

pub answer_8 : door_answer sheet8 4 2 3 ≡ reply8
answer_8 = door_read sheet8 4 2 3 contents8 read_8 ∙ run-8

pub called_exact : {r : ℕ} {places' loads' numbers' : List ℕ}
    → Called (door_answer sheet8 4 2 3) r (filled 32) (filled 16) (filled 24) places' loads' numbers'
    → (r ≡ 1) × (places' ≡ places_bytes) × (loads' ≡ loads_bytes) × (numbers' ≡ numbers_bytes)
unfolding put_numbers little_of little_all
called_exact called = (
  called.word ∙ ap (λ (a : Reply). plan_word a.answer) answer_8,
  called.new_places ∙ ap (λ (a : Reply). put_numbers a.places (filled 32)) answer_8,
  called.new_loads ∙ ap (λ (a : Reply). put_numbers a.loads (filled 16)) answer_8,
  called.new_numbers ∙ ap (λ (a : Reply). put_numbers (answer_numbers a.answer) (filled 24)) answer_8,
)

pub numbers_short : {r : ℕ} {places' loads' numbers' : List ℕ}
    → Called (door_answer sheet8 4 2 2) r (filled 32) (filled 16) (filled 23) places' loads' numbers'
    → (r ≡ fault_word (Table 0)) × AllKept (filled 32) (filled 16) (filled 23) places' loads' numbers'
numbers_short called =
    let claim = door_claim sheet8 (filled 32) (filled 16) (filled 23) called in
    claim.tables_short contents8 read_8 (inr (inr (omega arith)))
