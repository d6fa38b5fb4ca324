-- Writing a sheet and reading it back, as a C caller sees it, over the bytes of the buffers (the header yinqocha.h:
-- "What yinqocha_write() wrote is read back: the entries are the numbers that it was given").
--     h, booked, minutes, allowed     what is written: the head's four numbers, and the bytes of three tables
--     out, out'             the bytes of the output, before writing and after it
--     n                     the word that writing returns: the length, or the word of a fault
--     t, t'                 the bytes of the table of contents, before reading and after it
--     r                     the word that reading returns
--     WriteCalled, ReadCalled     what a call of each returns, and what it leaves in its buffer
--     WrittenThenRead       a sheet is written, and those bytes are read into a table that has room
--     GivenBack             the numbers that were given stand at the front of the table
use Rattle.std.specs.Prelude.{ℕ, ◌+◌, ◌*◌, ◌^◌, ◌≤◌, ◌<◌, ◌≡◌, List, length, take, drop}
use Rattle.bits.specs.Bits.{Bytes}
use Rattle.fields.specs.declared.sheet.Head.{Head}
use Rattle.frame.specs.Reading.{read_sheet}
use Rattle.frame.specs.Writing.{write_sheet, output}
use Rattle.tables.specs.Tables.{entries_of, entry_of}
use Rattle.door.specs.Door.{contents_in, written_word}
use Rattle.read_door.specs.ReadDoor.{read_word, contents_table}

-- The contract of yinqocha_write.
pub record WriteCalled (h : Head) (booked minutes allowed out : List ℕ) (n : ℕ) (out' : List ℕ) : Type 0 where
  pub word : n ≡ written_word (write_sheet (contents_in h booked minutes allowed) (length out))
  pub new_output :
      out' ≡ output (write_sheet (contents_in h booked minutes allowed) (length out))
      (contents_in h booked minutes allowed) out

-- The contract of yinqocha_read.
pub record ReadCalled (s t : List ℕ) (r : ℕ) (t' : List ℕ) : Type 0 where
  pub word : r ≡ read_word (read_sheet s) (length t)
  pub new_table : t' ≡ contents_table (read_sheet s) t

-- Both calls, one after the other. A word below 2 ^ 32 is no fault, so n is the length of the sheet. The elements of a
-- buffer are bytes; here that matters for the sets of benches, which have all 64 bits.
pub record WrittenThenRead (h : Head) (booked minutes allowed out : List ℕ) (n : ℕ) (out' t : List ℕ) (r : ℕ)
    (t' : List ℕ) : Type 0 where
  pub all_bytes : Bytes allowed
  pub write_called : WriteCalled h booked minutes allowed out n out'
  pub no_fault : n < 2 ^ 32
  pub room : 544 + 16 * entries_of minutes ≤ length t
  pub read_called : ReadCalled (take n out') t r t'

-- "four entries of the head, which are benches, p, q and target; then 64, of which entry b is the minutes for which
-- bench b is booked ..; then two for each job in order, its minutes and its benches". No entry of the given tables is
-- left out: there are as many jobs as entries, and an entry of bookings past the 64th is 0.
pub record GivenBack (h : Head) (booked minutes allowed t : List ℕ) (r : ℕ) (t' : List ℕ) : Type 0 where
  pub as_many_minutes : r ≡ entries_of minutes
  pub as_many_allowed : r ≡ entries_of allowed
  pub same_benches : entry_of t' 0 ≡ h.benches
  pub same_p : entry_of t' 1 ≡ h.p
  pub same_q : entry_of t' 2 ≡ h.q
  pub same_target : entry_of t' 3 ≡ h.target
  pub same_booked : (b : ℕ) → b < 64 → entry_of t' (4 + b) ≡ entry_of booked b
  pub none_further : (b : ℕ) → 64 ≤ b → entry_of booked b ≡ 0
  pub same_minutes : (j : ℕ) → j < r → entry_of t' (68 + 2 * j) ≡ entry_of minutes j
  pub same_allowed : (j : ℕ) → j < r → entry_of t' (69 + 2 * j) ≡ entry_of allowed j
  pub later_kept : drop (544 + 16 * r) t' ≡ drop (544 + 16 * r) t
  pub same_length : length t' ≡ length t
