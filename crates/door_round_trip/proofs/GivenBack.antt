-- What the C door writes it reads back.
--     given_back      a sheet is written, and those bytes are read into a table that has room: the numbers that were
--                     given stand at the front of the table
use Prim.Native.Nat.{ℕ, suc, ◌+◌, ◌*◌, ◌^◌, ◌≤◌, ◌<◌, max}
use native.Mathlib.Omega.{arith}
use mathlib.Core.Path.{◌≡◌, sym, ap, ◌∙◌}
use mathlib.Core.Logic.{inl, inr}
use mathlib.Core.List.{List, ◌++◌}
use lib.ListN.{length, get_or, take, drop, length-append, get_or-append, get_or-eq_default}
use lib.Seq.{take_at, get_or-append-add}
use borrow.Author.Tests.{le-ltb}
use Rattle.bools.proofs.BoolLaws.{clash}
use Rattle.bools.proofs.OrderLaws.{lt-or-le}
use Rattle.sums.proofs.TableLaws.{length-table, get_or-table}
use Rattle.bits.specs.Little.{little_all}
use Rattle.bits.proofs.BitsLaws.{Bytes-drop}
use Rattle.bits.proofs.LittleLaws.{little-lt}
use Rattle.bits.proofs.SetBits.{is_set-zero}
use Rattle.fields.specs.declared.sheet.Head.{Head}
use Rattle.fields.specs.declared.sheet.Job.{Job}
use Rattle.fields.specs.declared.fault.Fault.{Fault}
use Rattle.fields.specs.Contents.{Contents, booked_at, every_bench}
use Rattle.fields.specs.Format.{sheet_bytes}
use Rattle.fields.specs.Tests.{no_minutes, job_at}
use Rattle.fields.proofs.FormatLaws.{length-sheet_bytes}
use Rattle.std.specs.Prelude.{Result, Ok, Err}
use Rattle.frame.specs.Reading.{Read, accepted, read_sheet}
use Rattle.frame.specs.Writing.{jobs_of, as_read, writer_verdict, write_sheet, output}
use Rattle.frame.specs.Sound.{SoundSheet}
use Rattle.frame.proofs.WholeFrames.{verdict_cases}
use Rattle.frame.proofs.WriterLaws.{write_refused, writer_verdict-sound}
use Rattle.frame.proofs.WriterSteps.{length-job_table, job_at_lem}
use Rattle.frame.proofs.MissingMinutes.{written_minutes}
use Rattle.frame.proofs.Places.{written-length}
use Rattle.frame.proofs.RoundTrip.{write_read}
use Rattle.tables.specs.Tables.{entries_of, entry_of, numbers_of, put_numbers}
use Rattle.tables.proofs.TableSteps.{length-numbers_of, length-given_numbers}
use Rattle.tables.proofs.NumberSteps.{length-put_numbers}
use Rattle.tables.proofs.EntryLaws.{Fit, entry_put, later_kept}
use Rattle.tables.proofs.WordLaws.{fault_word_large}
use Rattle.door.specs.Door.{minutes_in, contents_in, written_word}
use Rattle.read_door.specs.ReadDoor.{head_numbers, job_numbers, contents_numbers, contents_bytes, read_word, contents_table}
use Rattle.read_door.proofs.ReadSteps.{length-job_numbers}
use Rattle.door_round_trip.specs.GivenBack.{WrittenThenRead, GivenBack}
use Rattle.door_round_trip.proofs.ContentsNumbers.{Fit-append, Fit-head, Fit-jobs, job_numbers_lem, entry_anywhere}
use Rattle.door_round_trip.proofs.ContentsNumbers.{given_entry}

-- ── what was written ──

-- A word below 2 ^ 32 is a length.
length-returned : (w : Result ℕ Fault) {n : ℕ} → n ≡ written_word w → n < 2 ^ 32 → w ≡ Ok n
length-returned (Ok k) e l = ap Ok (sym e)
length-returned (Err f) e l = absurd (omega (arith, fault_word_large f))

verdict_of-length : (c : Contents) (room n : ℕ) → write_sheet c room ≡ Ok n → writer_verdict c ≡ Ok tt
verdict_of-length c room n e = elim (verdict_cases (writer_verdict c)) [
  | inl a ↦ a
  | inr (f, a) ↦
      let no_length : Err f ≡ Ok n = sym (write_refused c room f a) ∙ e in
      let z : ◌≡◌ {A = ℕ} 0 1 = cc in absurd (omega arith)
]

module _ (h : Head) (booked minutes allowed out : List ℕ) (n : ℕ) (out' t : List ℕ) (r : ℕ) (t' : List ℕ)
    (both : WrittenThenRead h booked minutes allowed out n out' t r t') where
  abbrev all : ℕ
  all = max (length (minutes_in minutes)) (length (numbers_of allowed))

  abbrev js : List Job
  js = jobs_of (minutes_in minutes) (numbers_of allowed)

  abbrev given : Contents
  given = contents_in h booked minutes allowed

  written : write_sheet given (length out) ≡ Ok n
  written = length-returned (write_sheet given (length out)) both.write_called.word both.no_fault

  verdict : writer_verdict given ≡ Ok tt
  verdict = verdict_of-length given (length out) n written

  sound : SoundSheet given
  sound = writer_verdict-sound given verdict

  -- ── the jobs ──

  length-jobs : length js ≡ max (entries_of minutes) (entries_of allowed)
  length-jobs =
      length-job_table all (minutes_in minutes) (numbers_of allowed)
      ∙ rw (length-given_numbers minutes no_minutes, length-numbers_of allowed)

  job-given : (j : ℕ) → j < length js
      → job_at js j ≡ record { minutes = get_or (minutes_in minutes) j no_minutes; allowed = entry_of allowed j }
  job-given j l =
      job_at_lem all (minutes_in minutes) (numbers_of allowed) j
      (omega (arith, length-job_table all (minutes_in minutes) (numbers_of allowed)))
      ∙ ap (λ (a : ℕ). record { minutes = get_or (minutes_in minutes) j no_minutes; allowed = a })
      (entry_anywhere allowed j)

  -- A job without an entry of minutes, or of benches, is refused.
  minutes-given : (j : ℕ) → j < length js
      → (j < length (minutes_in minutes)) × (get_or (minutes_in minutes) j no_minutes < 2 ^ 20)
  minutes-given = written_minutes h (numbers_of booked) (minutes_in minutes) (numbers_of allowed) (length out) n written

  minutes_there : (j : ℕ) → j < length js → j < entries_of minutes
  minutes_there j l = omega (arith, (minutes-given j l).0, length-given_numbers minutes no_minutes)

  allowed_there : (j : ℕ) → j < length js → j < entries_of allowed
  allowed_there j l = elim (lt-or-le j (entries_of allowed)) [
    | inl below ↦ below
    | inr past ↦
        let no-bench : (job_at js j).allowed ≡ 0 =
        ap (λ (k : Job). k.allowed) (job-given j l) ∙ sym (entry_anywhere allowed j)
        ∙ get_or-eq_default (numbers_of allowed) 0 (omega (arith, length-numbers_of allowed)) in
        let (b, below, on) = (sound.jobs j l).allows_some in
        clash on (rw no-bench (is_set-zero 64 b))
  ]

  minutes_count : length js ≡ entries_of minutes
  minutes_count = elim (lt-or-le (entries_of minutes) (length js)) [
    | inl l ↦ absurd (omega (arith, minutes_there (entries_of minutes) l))
    | inr l ↦ omega (arith, length-jobs)
  ]

  allowed_count : length js ≡ entries_of allowed
  allowed_count = elim (lt-or-le (entries_of allowed) (length js)) [
    | inl l ↦ absurd (omega (arith, allowed_there (entries_of allowed) l))
    | inr l ↦ omega (arith, length-jobs)
  ]

  job_is : (j : ℕ) → j < length js → job_at js j ≡ record { minutes = entry_of minutes j; allowed = entry_of allowed j }
  job_is j l =
      job-given j l
      ∙ ap (λ (m : ℕ). record { minutes = m; allowed = entry_of allowed j })
      (given_entry minutes j (minutes_there j l) (minutes-given j l).1)

  allowed_fits : (j : ℕ) → entry_of allowed j < 2 ^ 64
  unfolding entry_of
  allowed_fits j = little-lt (drop (8 * j) allowed) 8 (Bytes-drop allowed (8 * j) both.all_bytes)

  job_allowed_fits : (j : ℕ) → j < length js → (job_at js j).allowed < 2 ^ 64
  job_allowed_fits j l = rw (job_is j l) (allowed_fits j)

  -- ── what is read ──

  sheet_written : take n out' ≡ sheet_bytes given
  unfolding output
  sheet_written =
      let size : length (sheet_bytes given) ≡ n =
      omega (arith, length-sheet_bytes given, written-length given (length out) n written) in
      ap (take n) (both.write_called.new_output ∙ ap (λ (w : Result ℕ Fault). output w given out) written)
      ∙ take_at (sheet_bytes given) (drop n out) n size

  read_back : read_sheet (take n out') ≡ accepted (as_read given)
  read_back = ap read_sheet sheet_written ∙ write_read given verdict job_allowed_fits

  room_for-all : contents_bytes (as_read given) ≤ length t
  room_for-all = omega (arith, both.room, minutes_count)

  abbrev numbers : List ℕ
  numbers = contents_numbers (as_read given)

  length-booked : length (every_bench (numbers_of booked)) ≡ 64
  length-booked = length-table 64 (booked_at (numbers_of booked))

  length-numbers : length numbers ≡ 68 + 2 * length js
  length-numbers =
      omega (
        arith,
        length-append (every_bench (numbers_of booked)) (job_numbers js),
        length-booked,
        length-job_numbers js,
      )

  word_is : r ≡ length js
  unfolding read_word
  word_is =
      both.read_called.word
      ∙ ap (λ (x : Read). read_word x (length t)) read_back
      ∙ rw (le-ltb (length t) (contents_bytes (as_read given)) room_for-all)

  table_is : t' ≡ put_numbers numbers t
  unfolding contents_table put_numbers
  table_is =
      let size : contents_bytes (as_read given) ≡ 8 * length numbers = omega (arith, length-numbers) in
      both.read_called.new_table
      ∙ ap (λ (x : Read). contents_table x t) read_back
      ∙ rw (le-ltb (length t) (contents_bytes (as_read given)) room_for-all)
      (ap (λ (k : ℕ). little_all 8 numbers ++ drop k t) size)

  -- ── its entries ──

  numbers_fit : Fit numbers
  numbers_fit =
      Fit-append (head_numbers h) (every_bench (numbers_of booked) ++ job_numbers js) (Fit-head h sound.head)
      (Fit-append (every_bench (numbers_of booked)) (job_numbers js)
      (λ b l.
      omega (
        arith,
        get_or-table 64 (booked_at (numbers_of booked)) b 0 (omega (arith, length-booked)),
        sound.bookings.booked_fit b,
      ))
      (Fit-jobs js (λ j l. (omega (arith, (sound.jobs j l).minutes_fit), job_allowed_fits j l))))

  entry_is : (i : ℕ) → i < 68 + 2 * length js → entry_of t' i ≡ get_or numbers i 0
  entry_is i l =
      ap (λ (xs : List ℕ). entry_of xs i) table_is
      ∙ entry_put numbers t i numbers_fit (omega (arith, length-numbers))

  behind_head : (i : ℕ) → get_or numbers (4 + i) 0 ≡ get_or (every_bench (numbers_of booked) ++ job_numbers js) i 0
  behind_head i = get_or-append-add (head_numbers h) (every_bench (numbers_of booked) ++ job_numbers js) i 0

  booked_number : (b : ℕ) → b < 64 → get_or numbers (4 + b) 0 ≡ entry_of booked b
  booked_number b l =
      behind_head b
      ∙ get_or-append (every_bench (numbers_of booked)) (job_numbers js) 0 b (omega (arith, length-booked))
      ∙ get_or-table 64 (booked_at (numbers_of booked)) b 0 l
      ∙ entry_anywhere booked b

  behind_booked : (i : ℕ) → get_or numbers (68 + i) 0 ≡ get_or (job_numbers js) i 0
  behind_booked i =
      let here : 68 + i ≡ 4 + (length (every_bench (numbers_of booked)) + i) = omega (arith, length-booked) in
      ap (λ (k : ℕ). get_or numbers k 0) here
      ∙ behind_head (length (every_bench (numbers_of booked)) + i)
      ∙ get_or-append-add (every_bench (numbers_of booked)) (job_numbers js) i 0

  pub given_back : GivenBack h booked minutes allowed t r t'
  given_back =
      let bytes : 8 * (68 + 2 * length js) ≡ 544 + 16 * r = omega (arith, word_is) in
      record {
        as_many_minutes = word_is ∙ minutes_count;
        as_many_allowed = word_is ∙ allowed_count;
        same_benches = entry_is 0 (omega arith);
        same_p = entry_is 1 (omega arith);
        same_q = entry_is 2 (omega arith);
        same_target = entry_is 3 (omega arith);
        same_booked = λ b l. entry_is (4 + b) (omega arith) ∙ booked_number b l;
        none_further = λ b l.
            sym (entry_anywhere booked b)
            ∙ sound.bookings.none_past_head b (omega (arith, sound.head.at_most_64_benches));
        same_minutes = λ j l.
            entry_is (68 + 2 * j) (omega (arith, word_is))
            ∙ behind_booked (2 * j)
            ∙ (job_numbers_lem js j (omega (arith, word_is))).0
            ∙ ap (λ (k : Job). k.minutes) (job_is j (omega (arith, word_is)));
        same_allowed = λ j l.
            let here : 69 + 2 * j ≡ 68 + suc (2 * j) = omega arith in
            entry_is (69 + 2 * j) (omega (arith, word_is))
            ∙ ap (λ (k : ℕ). get_or numbers k 0) here
            ∙ behind_booked (suc (2 * j))
            ∙ (job_numbers_lem js j (omega (arith, word_is))).1
            ∙ ap (λ (k : Job). k.allowed) (job_is j (omega (arith, word_is)));
        later_kept =
            ap (λ (k : ℕ). drop k t') (sym bytes)
            ∙ ap (drop (8 * (68 + 2 * length js))) table_is
            ∙ later_kept numbers t (68 + 2 * length js) length-numbers
            ∙ ap (λ (k : ℕ). drop k t) bytes;
        same_length =
            ap length table_is
            ∙ length-put_numbers numbers t (omega (arith, length-numbers, room_for-all));
      }
