-- Check-only jobs at the C door (request S-3).
-- Planning:
--     checks_called       an accepted sheet with such jobs alone, no booking above 0 and room in the tables: the call
--                         returns a plan with largest load 0 and 0 moves, each job on its lowest bench, and no load
--     above_zero          with the target 0 and a job above 0 it returns long
--     never_10_returned   no call that plans returns fault 10
-- Writing, no silent zero:
--     zero-written        a job of 0 minutes in a sheet that is written has all eight bytes of its entry, each of them 0
--     begun_unwritten     a table of minutes that ends inside an entry, of which no byte is above 0: no sheet is written
--     short_unwritten     fewer entries of minutes than of benches allowed, begun ones counted: no sheet is written
--     whole-zero, begun-zero, begun_one, missing      the minutes of small tables, and of an entry that is not there
use Prim.Native.Nat.{ℕ, ◌+◌, ◌*◌, ◌/◌, ◌%◌, ◌^◌, ◌≤◌, ◌<◌, max}
use native.Mathlib.Omega.{arith}
use mathlib.Core.Path.{◌≡◌, refl, sym, ap, subst, ◌∙◌}
use mathlib.Core.Logic.{◌≢◌, inl, inr}
use mathlib.Core.Bool.{false, ◌&&◌}
use mathlib.Core.List.{List, [], ◌∷◌}
use lib.ListN.{length, get_or}
use lib.Dec.{eqb}
use borrow.Author.Tests.{eq-eqb, lt-ltb, ltb-false}
use Rattle.bools.proofs.BoolLaws.{split, and-false_elim, clash}
use Rattle.sums.proofs.TableLaws.{get_or-table}
use Rattle.bits.specs.Little.{little}
use Rattle.fields.specs.declared.sheet.Head.{Head}
use Rattle.fields.specs.declared.sheet.Job.{Job}
use Rattle.fields.specs.declared.fault.Fault.{Fault}
use Rattle.fields.specs.declared.fault.Fault.TheVariants.{Table}
use Rattle.fields.specs.Contents.{Contents}
use Rattle.fields.specs.Tests.{no_minutes, job_at}
use Rattle.std.specs.Prelude.{Result, Ok, Err}
use Rattle.frame.specs.Writing.{jobs_of, write_sheet}
use Rattle.frame.proofs.WriterSteps.{length-job_table, job_at_lem}
use Rattle.frame.proofs.FirstFault.{never_10}
use Rattle.frame.proofs.MissingMinutes.{written_minutes, unwritten}
use Rattle.day.specs.Day.{day_of, check_only, ChecksOnly}
use Rattle.day.proofs.CheckOnly.{above-zero-long}
use Rattle.answers.specs.Answers.{Reply}
use Rattle.algorithm.specs.Answer.{checks_reply}
use Rattle.algorithm.proofs.CheckOnlyRun.{answer_of_checks}
use Rattle.tables.specs.Tables.{entries_of, entry_of, numbers_of, room_of, lacks_bytes, given_at, given_numbers}
use Rattle.tables.proofs.TableSteps.{length-numbers_of, length-given_numbers}
use Rattle.tables.proofs.WordLaws.{fault_word_number}
use Rattle.door.specs.Door.{minutes_in, contents_in}
use Rattle.door.specs.DoorClaim.{RoomFor, DoorClaim}
use Rattle.door.specs.PlanDoor.{door_answer, Called}
use Rattle.door.proofs.DoorDemand.{room_answer}

-- ── planning ──

module _ (s places loads numbers : List ℕ) (c : Contents) (t : RoomFor s places loads numbers c) where
  pub checks_called : ChecksOnly (day_of c) → {r : ℕ} {places' loads' numbers' : List ℕ}
      → Called (door_answer s (room_of places) (room_of loads) (room_of numbers)) r
      places loads numbers places' loads' numbers'
      → Called (checks_reply (day_of c)) r places loads numbers places' loads' numbers'
  checks_called checks {r} {places'} {loads'} {numbers'} called =
      subst (λ (a : Reply). Called a r places loads numbers places' loads' numbers')
      (room_answer s places loads numbers c t ∙ answer_of_checks (day_of c) checks) called

  pub above_zero : {r : ℕ} {places' loads' numbers' : List ℕ}
      → DoorClaim s places loads numbers r places' loads' numbers'
      → c.head.target ≡ 0 → (j : ℕ) → j < length c.jobs → check_only (day_of c) j ≡ false → r ≡ 2
  above_zero claim no-time j below above =
      claim.long_given c t j (record { is_job = below; longer = above-zero-long (day_of c) j no-time above })

pub never_10_returned : (s places loads numbers : List ℕ) {r : ℕ} {places' loads' numbers' : List ℕ}
    → DoorClaim s places loads numbers r places' loads' numbers' → r / 2 ^ 32 ≢ 10
never_10_returned s places loads numbers claim ten = elim claim.one_case.some [
  | inl (f, faulty) ↦
      let word = ap (λ (w : ℕ). w / 2 ^ 32) (claim.sheet_refused f faulty).0 in
      never_10 s f faulty (sym (fault_word_number f) ∙ sym word ∙ ten)
  | inr (inl (c, read, short)) ↦
      let word = ap (λ (w : ℕ). w / 2 ^ 32) (claim.tables_short c read short).0 in
      omega (arith, fault_word_number (Table 0), word)
  | inr (inr (c, t)) ↦ elim (claim.one_of_three c t) [
    | inl one ↦ omega arith
    | inr (inl two) ↦ omega arith
    | inr (inr three) ↦ omega arith
  ]
]

-- ── the minutes of a table ──

-- An entry that lacks bytes and comes to 0 is too wide for the field.
begun_given : (t : List ℕ) (j : ℕ) → length t < 8 * j + 8 → entry_of t j ≡ 0 → j < entries_of t
    → get_or (minutes_in t) j no_minutes ≡ no_minutes
unfolding given_numbers given_at
begun_given t j short zero l =
    get_or-table (entries_of t) (given_at t no_minutes) j no_minutes l
    ∙ rw (lt-ltb (length t) (8 * j + 8) short, eq-eqb (entry_of t j) 0 zero)

-- Minutes of 0 that are given are eight bytes, and the number of them.
zero-given : (t : List ℕ) (j : ℕ) → j < entries_of t → get_or (minutes_in t) j no_minutes ≡ 0
    → (8 * j + 8 ≤ length t) × (entry_of t j ≡ 0)
unfolding given_numbers given_at
zero-given t j l zero =
    let given = sym (get_or-table (entries_of t) (given_at t no_minutes) j no_minutes l) ∙ zero in
    elim (split (lacks_bytes t j && eqb (entry_of t j) 0)) [
      | inl p ↦ absurd (let z : no_minutes ≡ 0 = rw p at given in omega arith)
      | inr p ↦
          let nothing : entry_of t j ≡ 0 = rw p at given in
          let whole : lacks_bytes t j ≡ false = elim (and-false_elim (lacks_bytes t j) (eqb (entry_of t j) 0) p) [
            | inl no-lack ↦ no-lack
            | inr some ↦ clash (eq-eqb (entry_of t j) 0 nothing) some
          ] in
          (ltb-false (length t) (8 * j + 8) whole, nothing)
    ]

entries_begun : (t : List ℕ) → 0 < length t % 8 → length t / 8 < entries_of t
unfolding entries_of
entries_begun t begun = omega arith

refused : (w : Result ℕ Fault) → ((n : ℕ) → w ≡ Ok n → ⊥) → (f : Fault) × (w ≡ Err f)
refused (Ok n) none = absurd (none n refl)
refused (Err f) none = (f, refl)

module _ (h : Head) (booked minutes allowed : List ℕ) (room : ℕ) where
  pub zero-written : {n : ℕ} → write_sheet (contents_in h booked minutes allowed) room ≡ Ok n
      → (j : ℕ) → j < length (jobs_of (minutes_in minutes) (numbers_of allowed))
      → (job_at (jobs_of (minutes_in minutes) (numbers_of allowed)) j).minutes ≡ 0
      → (8 * j + 8 ≤ length minutes) × (entry_of minutes j ≡ 0)
  zero-written written j below zero =
      let all = max (length (minutes_in minutes)) (length (numbers_of allowed)) in
      let read = written_minutes h (numbers_of booked) (minutes_in minutes) (numbers_of allowed) room _ written j below in
      let job = job_at_lem all (minutes_in minutes) (numbers_of allowed) j
      (omega (arith, length-job_table all (minutes_in minutes) (numbers_of allowed))) in
      zero-given minutes j (omega (arith, read.0, length-given_numbers minutes no_minutes))
      (sym (ap (λ (k : Job). k.minutes) job) ∙ zero)

  pub begun_unwritten : 0 < length minutes % 8 → entry_of minutes (length minutes / 8) ≡ 0
      → (f : Fault) × (write_sheet (contents_in h booked minutes allowed) room ≡ Err f)
  begun_unwritten begun zero =
      let j = length minutes / 8 in
      let there = entries_begun minutes begun in
      refused (write_sheet (contents_in h booked minutes allowed) room) (λ n written.
      let all = max (length (minutes_in minutes)) (length (numbers_of allowed)) in
      let below : j < length (jobs_of (minutes_in minutes) (numbers_of allowed)) =
      omega (
        arith,
        there,
        length-given_numbers minutes no_minutes,
        length-job_table all (minutes_in minutes) (numbers_of allowed),
      ) in
      let read = written_minutes h (numbers_of booked) (minutes_in minutes) (numbers_of allowed) room n written j below in
      omega (arith, read.1, begun_given minutes j (omega arith) zero there))

  pub short_unwritten : entries_of minutes < entries_of allowed
      → (f : Fault) × (write_sheet (contents_in h booked minutes allowed) room ≡ Err f)
  short_unwritten l =
      unwritten h (numbers_of booked) (minutes_in minutes) (numbers_of allowed)
      (omega (arith, length-given_numbers minutes no_minutes, length-numbers_of allowed)) room

-- ── small tables ──

pub whole-zero : minutes_in (0 ∷ 0 ∷ 0 ∷ 0 ∷ 0 ∷ 0 ∷ 0 ∷ 0 ∷ []) ≡ 0 ∷ []
unfolding little entries_of entry_of given_at given_numbers
whole-zero = refl

pub begun-zero : minutes_in (5 ∷ 0 ∷ 0 ∷ 0 ∷ 0 ∷ 0 ∷ 0 ∷ 0 ∷ 0 ∷ []) ≡ 5 ∷ no_minutes ∷ []
unfolding little entries_of entry_of given_at given_numbers
begun-zero = refl

pub begun_one : minutes_in (0 ∷ 0 ∷ 0 ∷ 0 ∷ 0 ∷ 0 ∷ 0 ∷ 0 ∷ 0 ∷ 1 ∷ []) ≡ 0 ∷ 256 ∷ []
unfolding little entries_of entry_of given_at given_numbers
begun_one = refl

pub missing : (a : ℕ) → jobs_of (minutes_in (0 ∷ 0 ∷ 0 ∷ 0 ∷ 0 ∷ 0 ∷ 0 ∷ 0 ∷ [])) (a ∷ a ∷ [])
    ≡ record { minutes = 0; allowed = a } ∷ record { minutes = no_minutes; allowed = a } ∷ []
unfolding little entries_of entry_of given_at given_numbers
missing a = refl
