-- Laws of a fault's word: it is no value below 2 ^ 32, and shows the fault's number and place.
--     fault_word_large    a fault's word is at least 2 ^ 32
--     fault_word_number   its high half is the fault's number
--     fault_word_place    its low half is the fault's place, where that is below 2 ^ 32
use Prim.Native.Nat.{◌/◌, ◌%◌, ◌^◌, ◌≤◌, ◌<◌}
use native.Mathlib.Omega.{arith}
use mathlib.Core.Path.{◌≡◌}
use Rattle.fields.specs.declared.fault.Fault.{Fault}
use Rattle.fields.specs.Numbers.{number_of, place_of}
use Rattle.fields.proofs.NumberLaws.{number_positive}
use Rattle.tables.specs.Words.{fault_word}

pub fault_word_large : (f : Fault) → 2 ^ 32 ≤ fault_word f
fault_word_large f = omega (arith, number_positive f)

pub fault_word_number : (f : Fault) → fault_word f / 2 ^ 32 ≡ number_of f
fault_word_number f = omega arith

pub fault_word_place : (f : Fault) → place_of f < 2 ^ 32 → fault_word f % 2 ^ 32 ≡ place_of f
fault_word_place f l = omega arith
