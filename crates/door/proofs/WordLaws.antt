-- Laws of the words that the door returns: a value is below 2 ^ 32, and a fault is not (tables' WordLaws), so a caller
-- can tell them apart.
--     written_word_value  the word of a length that the writer returns is that length, and is below 2 ^ 32
--     written_word_fault  the word of a fault that the writer returns has its number; and its place, which is below
--                         2 ^ 32 if the table of bookings has fewer entries than that (the place of 14 is an entry)
--     read_word_fault     so has the word of a fault of a sheet
use Prim.Native.Nat.{ℕ, ◌/◌, ◌%◌, ◌^◌, ◌<◌}
use native.Mathlib.Omega.{arith}
use mathlib.Core.Path.{◌≡◌, ap}
use mathlib.Core.List.{List}
use lib.ListN.{length}
use Rattle.fields.specs.Contents.{Contents}
use Rattle.fields.specs.declared.fault.Fault.{Fault}
use Rattle.std.specs.Prelude.{Ok, Err}
use Rattle.fields.specs.Numbers.{number_of, place_of}
use Rattle.frame.specs.Writing.{write_sheet}
use Rattle.frame.specs.Reading.{refused, read_sheet}
use Rattle.frame.proofs.Places.{written_place, written-length, read_place}
use Rattle.tables.specs.Words.{fault_word}
use Rattle.tables.proofs.WordLaws.{fault_word_number, fault_word_place}
use Rattle.door.specs.Door.{written_word}

module _ (c : Contents) (room : ℕ) where
  pub written_word_value : (n : ℕ) → write_sheet c room ≡ Ok n → (written_word (write_sheet c room) ≡ n) × (n < 2 ^ 32)
  written_word_value n e = (ap written_word e, omega (arith, written-length c room n e))

  pub written_word_fault : (f : Fault) → write_sheet c room ≡ Err f
      → (written_word (write_sheet c room) / 2 ^ 32 ≡ number_of f)
      × (length c.booked < 2 ^ 32 → written_word (write_sheet c room) % 2 ^ 32 ≡ place_of f)
  written_word_fault f e = (
    rw e (fault_word_number f),
    λ l. rw e (fault_word_place f (omega (arith, written_place c room f e))),
  )

pub read_word_fault : (s : List ℕ) (f : Fault) → read_sheet s ≡ refused f
    → (fault_word f / 2 ^ 32 ≡ number_of f) × (fault_word f % 2 ^ 32 ≡ place_of f)
read_word_fault s f e = (fault_word_number f, fault_word_place f (omega (arith, read_place s f e)))
