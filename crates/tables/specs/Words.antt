-- Result words (the header yinqocha.h says the same in words).
--     fault_word f      a fault: its number in the high half, its place in the low half
use Rattle.std.specs.Prelude.{ℕ, ◌+◌, ◌*◌, ◌%◌, ◌^◌}
use Rattle.fields.specs.declared.fault.Fault.{Fault}
use Rattle.fields.specs.Numbers.{number_of, place_of}

abbrev pub fault_word : Fault → ℕ
fault_word f = number_of f * 2 ^ 32 + place_of f % 2 ^ 32
