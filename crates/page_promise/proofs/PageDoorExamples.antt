-- Pages of sets through the C door, from the bytes of a sheet and of a page to the word and the bytes of the answer's
-- table. Share 4/7, two benches, 8 bytes for the answer.
--     set_of b rest         the bytes of a set of the benches 0 to 7, before others: b has bench 0 as its highest bit
--     both_page, second_page, shared_page, no_bench_page, foreign_page, begun_page  the pages below
-- T = 8, three heavy jobs of 5 on both benches, which have no placement (blocking's ClaimRefusals):
--     passed-exact          {0}, {1}: what a call returns, and every byte that it leaves
-- T = 5, bench 0 carries 7, bench 1 carries 4 (also there):
--     not-passed-exact      {0}, {1}: 0, and set 1
--     no_bench_exact        {0}, no bench: number 17 with set 1, and nothing is changed
--     foreign_exact         {0}, {1, 2}: number 17 with set 1, and not with bench 2
--     begun_exact           9 bytes, of which the last begins a set: number 17 with set 1
--     shared_exact          {0}, {1}, {0}: number 18 with set 2, which shares with one that is not its neighbour
--     short_before_page     with a byte less for the answer: 13, whatever the page is
-- T = 5, jobs of 4, 6 and 7 on bench 0 (set_promise's SetDoorExamples):
--     long_exact            {1}: 2, and job 1
--     long_without_sets     no bytes: the same
-- T = 4, four jobs of 2, which fit (blocking's ClaimExamples):
--     empty_page_exact      no bytes: 1, and a zero
-- The empty sheet:
--     sheet-first           its own fault, whatever the page and the table are
-- Each with its answer:
--     passed_claimed, not-passed-claimed, long_claimed    the claim holds
use Prim.Native.Nat.{ℕ, ◌+◌, ◌*◌, ◌^◌}
use mathlib.Core.Path.{◌≡◌, refl, sym, ap, ◌∙◌}
use mathlib.Core.List.{List, [], ◌∷◌}
use native.Mathlib.Omega.{arith}
use Rattle.bits.specs.Bits.{is_set}
use Rattle.bits.specs.Little.{little, little_of, little_all}
use Rattle.fields.specs.declared.fault.Fault.TheVariants.{Truncated, SetBench, SharedBench}
use Rattle.fields.specs.Format.{booked_from}
use Rattle.frame.specs.Reading.{read_from, read_sheet}
use Rattle.day.specs.Day.{long_job}
use Rattle.answers.specs.declared.check.PageAnswer.{PageAnswer}
use Rattle.answers.specs.declared.check.PageAnswer.TheVariants.{Passed, Long, NotPassed, Fault as Faulty}
use Rattle.algorithm.specs.Rocks.{lowest, highest}
use Rattle.placements.specs.Classes.{to_low, placed, put_job, after, least_of}
use Rattle.placements.specs.LeastWeight.{blocks}
use Rattle.blocking.proofs.ClaimExamples.{contents8, sheet8, read_8}
use Rattle.blocking.proofs.ClaimRefusals.{full_contents, full_sheet, full_read}
use Rattle.blocking.proofs.ClaimRefusals.{one_full_contents, one_full_sheet, one_full_read}
use Rattle.set_check.specs.SetCheck.{foreign_in}
use Rattle.page_faults.specs.PageFaults.{unfit, overlap, shares_earlier, first_faulty, page_verdict}
use Rattle.page_check.specs.PageCheck.{first_open}
use Rattle.tables.specs.Tables.{entries_of, entry_of, numbers_of, room_of, put_numbers}
use Rattle.door.proofs.DoorExamples.{filled, entry}
use Rattle.set_promise.proofs.SetDoorExamples.{late_contents, late_sheet, late_read}
use Rattle.page_promise.specs.PageDoor.{door_page, page_word, page_numbers, PageCalled}
use Rattle.page_promise.specs.PageDoorClaim.{PageDoorClaim}
use Rattle.page_promise.proofs.PageReplies.{door_read}
use Rattle.page_promise.proofs.PageDemand.{door_claim}

-- ── pages ──

abbrev pub set_of : ℕ → List ℕ → List ℕ
set_of b rest = 0 ∷ 0 ∷ 0 ∷ 0 ∷ 0 ∷ 0 ∷ 0 ∷ b ∷ rest

-- {0}, {1}
abbrev pub both_page : List ℕ
both_page = set_of 128 (set_of 64 [])

-- {1}
abbrev pub second_page : List ℕ
second_page = set_of 64 []

-- {0}, {1}, {0}
abbrev pub shared_page : List ℕ
shared_page = set_of 128 (set_of 64 (set_of 128 []))

-- {0}, no bench
abbrev pub no_bench_page : List ℕ
no_bench_page = set_of 128 (set_of 0 [])

-- {0}, {1, 2}
abbrev pub foreign_page : List ℕ
foreign_page = set_of 128 (set_of 96 [])

-- {0}, and a byte of the next set: its lowest, so that 128 there is bench 56.
abbrev pub begun_page : List ℕ
begun_page = set_of 128 (128 ∷ [])

-- ── the answers ──

passes : door_page full_sheet (numbers_of both_page) 1 ≡ Passed
unfolding entries_of entry_of numbers_of little page_verdict first_faulty unfit overlap shares_earlier foreign_in first_open
    long_job is_set booked_from lowest highest to_low placed put_job after least_of blocks
passes = door_read full_sheet (numbers_of both_page) 1 full_contents full_read (omega arith)

fails : door_page one_full_sheet (numbers_of both_page) 1 ≡ NotPassed 1
unfolding entries_of entry_of numbers_of little page_verdict first_faulty unfit overlap shares_earlier foreign_in first_open
    long_job is_set booked_from lowest highest to_low placed put_job after least_of blocks
fails = door_read one_full_sheet (numbers_of both_page) 1 one_full_contents one_full_read (omega arith)

names_job : door_page late_sheet (numbers_of second_page) 1 ≡ Long (record { job = 1 })
unfolding entries_of entry_of numbers_of little page_verdict first_faulty unfit overlap shares_earlier foreign_in long_job is_set
names_job = door_read late_sheet (numbers_of second_page) 1 late_contents late_read (omega arith)

names_job_alone : door_page late_sheet (numbers_of []) 1 ≡ Long (record { job = 1 })
unfolding entries_of numbers_of page_verdict first_faulty long_job
names_job_alone = door_read late_sheet (numbers_of []) 1 late_contents late_read (omega arith)

passes_empty : door_page sheet8 (numbers_of []) 1 ≡ Passed
unfolding entries_of numbers_of page_verdict first_faulty first_open long_job
passes_empty = door_read sheet8 (numbers_of []) 1 contents8 read_8 (omega arith)

is_empty : door_page one_full_sheet (numbers_of no_bench_page) 1 ≡ Faulty (SetBench 1)
unfolding entries_of entry_of numbers_of little page_verdict first_faulty unfit overlap shares_earlier foreign_in is_set
is_empty = door_read one_full_sheet (numbers_of no_bench_page) 1 one_full_contents one_full_read (omega arith)

names_bench : door_page one_full_sheet (numbers_of foreign_page) 1 ≡ Faulty (SetBench 1)
unfolding entries_of entry_of numbers_of little page_verdict first_faulty unfit overlap shares_earlier foreign_in is_set
names_bench = door_read one_full_sheet (numbers_of foreign_page) 1 one_full_contents one_full_read (omega arith)

is_begun : door_page one_full_sheet (numbers_of begun_page) 1 ≡ Faulty (SetBench 1)
unfolding entries_of entry_of numbers_of little page_verdict first_faulty unfit overlap shares_earlier foreign_in is_set
is_begun = door_read one_full_sheet (numbers_of begun_page) 1 one_full_contents one_full_read (omega arith)

shares : door_page one_full_sheet (numbers_of shared_page) 1 ≡ Faulty (SharedBench 2)
unfolding entries_of entry_of numbers_of little page_verdict first_faulty unfit overlap shares_earlier foreign_in is_set
shares = door_read one_full_sheet (numbers_of shared_page) 1 one_full_contents one_full_read (omega arith)

-- ── the word and the table ──

abbrev Called : List ℕ → List ℕ → List ℕ → ℕ → List ℕ → Type 0
Called s page numbers r numbers' = PageCalled (door_page s (numbers_of page) (room_of numbers)) r numbers numbers'

module _ {a : PageAnswer} {numbers : List ℕ} {answer : PageAnswer} (is : answer ≡ a) where
  called_is : {r : ℕ} {numbers' : List ℕ} → PageCalled answer r numbers numbers'
      → (r ≡ page_word a) × (numbers' ≡ put_numbers (page_numbers a) numbers)
  called_is called = (
    called.word ∙ ap page_word is,
    called.new_numbers ∙ ap (λ (x : PageAnswer). put_numbers (page_numbers x) numbers) is,
  )

  is_called : PageCalled answer (page_word a) numbers (put_numbers (page_numbers a) numbers)
  is_called = record {
    word = sym (ap page_word is);
    new_numbers = sym (ap (λ (x : PageAnswer). put_numbers (page_numbers x) numbers) is);
  }

pub passed-exact : {r : ℕ} {numbers' : List ℕ} → Called full_sheet both_page (filled 8) r numbers'
    → (r ≡ 1) × (numbers' ≡ entry 0 [])
unfolding put_numbers little_of little_all
passed-exact called = called_is passes called

pub not-passed-exact : {r : ℕ} {numbers' : List ℕ} → Called one_full_sheet both_page (filled 8) r numbers'
    → (r ≡ 0) × (numbers' ≡ entry 1 [])
unfolding put_numbers little_of little_all
not-passed-exact called = called_is fails called

pub long_exact : {r : ℕ} {numbers' : List ℕ} → Called late_sheet second_page (filled 8) r numbers'
    → (r ≡ 2) × (numbers' ≡ entry 1 [])
unfolding put_numbers little_of little_all
long_exact called = called_is names_job called

pub long_without_sets : {r : ℕ} {numbers' : List ℕ} → Called late_sheet [] (filled 8) r numbers'
    → (r ≡ 2) × (numbers' ≡ entry 1 [])
unfolding put_numbers little_of little_all
long_without_sets called = called_is names_job_alone called

pub empty_page_exact : {r : ℕ} {numbers' : List ℕ} → Called sheet8 [] (filled 8) r numbers'
    → (r ≡ 1) × (numbers' ≡ entry 0 [])
unfolding put_numbers little_of little_all
empty_page_exact called = called_is passes_empty called

pub passed_claimed : PageDoorClaim full_sheet both_page (filled 8) 1 (entry 0 [])
unfolding put_numbers little_of little_all
passed_claimed = door_claim full_sheet both_page (filled 8) (is_called passes)

pub not-passed-claimed : PageDoorClaim one_full_sheet both_page (filled 8) 0 (entry 1 [])
unfolding put_numbers little_of little_all
not-passed-claimed = door_claim one_full_sheet both_page (filled 8) (is_called fails)

pub long_claimed : PageDoorClaim late_sheet second_page (filled 8) 2 (entry 1 [])
unfolding put_numbers little_of little_all
long_claimed = door_claim late_sheet second_page (filled 8) (is_called names_job)

-- ── faults ──

pub no_bench_exact : {r : ℕ} {numbers' : List ℕ} → Called one_full_sheet no_bench_page (filled 8) r numbers'
    → (r ≡ 17 * 2 ^ 32 + 1) × (numbers' ≡ filled 8)
unfolding put_numbers little_all
no_bench_exact called = called_is is_empty called

pub foreign_exact : {r : ℕ} {numbers' : List ℕ} → Called one_full_sheet foreign_page (filled 8) r numbers'
    → (r ≡ 17 * 2 ^ 32 + 1) × (numbers' ≡ filled 8)
unfolding put_numbers little_all
foreign_exact called = called_is names_bench called

pub begun_exact : {r : ℕ} {numbers' : List ℕ} → Called one_full_sheet begun_page (filled 8) r numbers'
    → (r ≡ 17 * 2 ^ 32 + 1) × (numbers' ≡ filled 8)
unfolding put_numbers little_all
begun_exact called = called_is is_begun called

pub shared_exact : {r : ℕ} {numbers' : List ℕ} → Called one_full_sheet shared_page (filled 8) r numbers'
    → (r ≡ 18 * 2 ^ 32 + 2) × (numbers' ≡ filled 8)
unfolding put_numbers little_all
shared_exact called = called_is shares called

pub short_before_page : (page : List ℕ) {r : ℕ} {numbers' : List ℕ} → Called one_full_sheet page (filled 7) r numbers'
    → (r ≡ 13 * 2 ^ 32) × (numbers' ≡ filled 7)
short_before_page page called =
    (door_claim one_full_sheet page (filled 7) called).table_short one_full_contents one_full_read (omega arith)

pub sheet-first : (page numbers : List ℕ) {r : ℕ} {numbers' : List ℕ} → Called [] page numbers r numbers'
    → (r ≡ 2 * 2 ^ 32) × (numbers' ≡ numbers)
unfolding read_sheet read_from
sheet-first page numbers called = (door_claim [] page numbers called).sheet_refused (Truncated 0) refl
