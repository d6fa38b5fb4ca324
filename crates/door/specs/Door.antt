-- What writing takes from C callers and gives back (the header yinqocha.h says the same in words).
--     head_of            the head fields, handed over as plain numbers
--     minutes_in        the minutes of a table; an entry that lacks bytes and has none above 0 gives none
--     contents_in       what the writer is given: a head, a table of bookings, and the jobs of two tables
--     written_word w    what writing returns: the length, or the fault
use Rattle.std.specs.Prelude.{ℕ, List, Result, Ok, Err}
use Rattle.fields.specs.declared.sheet.Head.{Head}
use Rattle.fields.specs.Contents.{Contents}
use Rattle.fields.specs.declared.fault.Fault.{Fault}
use Rattle.fields.specs.Tests.{no_minutes}
use Rattle.frame.specs.Writing.{contents_of}
use Rattle.tables.specs.Tables.{numbers_of, given_numbers}
use Rattle.tables.specs.Words.{fault_word}

abbrev pub head_of : ℕ → ℕ → ℕ → ℕ → Head
head_of benches p q target = record { benches = benches; p = p; q = q; target = target }

-- Request S-3: a job has 0 minutes only where all eight bytes of its entry are there.
abbrev pub minutes_in : List ℕ → List ℕ
minutes_in minutes = given_numbers minutes no_minutes

-- Booked minutes by bench; the jobs of two tables: minutes, and benches allowed.
abbrev pub contents_in : Head → List ℕ → List ℕ → List ℕ → Contents
contents_in h booked minutes allowed = contents_of h (numbers_of booked) (minutes_in minutes) (numbers_of allowed)

abbrev pub written_word : Result ℕ Fault → ℕ
written_word (Ok n) = n
written_word (Err f) = fault_word f
