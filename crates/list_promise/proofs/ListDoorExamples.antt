-- Lists through the C door, from the bytes of a sheet and of the list to the word and the bytes of the answer's table.
-- Two benches, share 4/7, T = 7, jobs of 6 and 7 on both (list_check's ListExamples).
--     room_exact            a table of 16 bytes is large enough
--     passed-exact          both jobs on bench 1, 13 minutes: what a call returns, and every byte that it leaves
--     not-passed-exact      a bench that the head lacks: 0, and two zeros
--     begun_counts          a list that ends inside its second entry: the bytes that are not there are 0
--     begun_too_many        a list that ends inside its third entry: number 16, and nothing is changed
--     short_before_count    with a byte less for the answer: 13, also if there is a place too many
--     right_claimed, not-passed-claimed     the claim holds of the first two
use Prim.Native.Nat.{ℕ}
use mathlib.Core.Path.{◌≡◌, sym, ap, ◌∙◌}
use mathlib.Core.List.{List, [], ◌∷◌, ◌++◌}
use native.Mathlib.Omega.{arith}
use Rattle.bits.specs.Bits.{is_set}
use Rattle.bits.specs.Little.{little, little_of, little_all}
use Rattle.sums.specs.Sum.{fullest}
use Rattle.fields.specs.declared.fault.Fault.TheVariants.{Table, PlaceCount}
use Rattle.fields.specs.Format.{booked_from}
use Rattle.answers.specs.declared.check.ListAnswer.{ListAnswer}
use Rattle.answers.specs.declared.check.ListAnswer.TheVariants.{NotPassed}
use Rattle.list_check.proofs.ListExamples.{passed, two_contents, two_bytes, two_read}
use Rattle.tables.specs.Tables.{entries_of, entry_of, numbers_of, room_of, put_numbers}
use Rattle.tables.specs.Words.{fault_word}
use Rattle.door.proofs.DoorExamples.{filled, entry, pair}
use Rattle.list_promise.specs.ListDoor.{door_list, list_word, list_numbers, ListCalled}
use Rattle.list_promise.specs.ListDoorClaim.{RoomForList, ListDoorClaim}
use Rattle.list_promise.proofs.ListReplies.{door_read}
use Rattle.list_promise.proofs.ListDemand.{list-claim}

pub room_exact : RoomForList two_bytes (filled 16) two_contents
room_exact = record { sheet_accepted = two_read; two_numbers = omega arith }

abbrev Called : List ℕ → List ℕ → ℕ → List ℕ → Type 0
Called places numbers r numbers' =
    ListCalled (door_list two_bytes (numbers_of places) (room_of numbers)) r numbers numbers'

-- ── the answers ──

passes : door_list two_bytes (numbers_of (pair 1 1)) 2 ≡ passed 13 1
unfolding entries_of entry_of numbers_of little is_set fullest booked_from
passes = door_read two_bytes (numbers_of (pair 1 1)) 2 two_contents two_read (omega arith)

fails : door_list two_bytes (numbers_of (pair 0 2)) 2 ≡ NotPassed
unfolding entries_of entry_of numbers_of little is_set booked_from
fails = door_read two_bytes (numbers_of (pair 0 2)) 2 two_contents two_read (omega arith)

pub begun_counts : door_list two_bytes (numbers_of (entry 1 (1 ∷ []))) 2 ≡ passed 13 1
unfolding entries_of entry_of numbers_of little is_set fullest booked_from
begun_counts = door_read two_bytes (numbers_of (entry 1 (1 ∷ []))) 2 two_contents two_read (omega arith)

-- ── the word and the table ──

module _ {a : ListAnswer} {numbers : List ℕ} {answer : ListAnswer} (is : answer ≡ a) where
  called_is : {r : ℕ} {numbers' : List ℕ} → ListCalled answer r numbers numbers'
      → (r ≡ list_word a) × (numbers' ≡ put_numbers (list_numbers a) numbers)
  called_is called = (
    called.word ∙ ap list_word is,
    called.new_numbers ∙ ap (λ (x : ListAnswer). put_numbers (list_numbers x) numbers) is,
  )

  is_called : ListCalled answer (list_word a) numbers (put_numbers (list_numbers a) numbers)
  is_called = record {
    word = sym (ap list_word is);
    new_numbers = sym (ap (λ (x : ListAnswer). put_numbers (list_numbers x) numbers) is);
  }

pub passed-exact : {r : ℕ} {numbers' : List ℕ} → Called (pair 1 1) (filled 16) r numbers'
    → (r ≡ 1) × (numbers' ≡ pair 13 1)
unfolding put_numbers little_of little_all
passed-exact called = called_is passes called

pub not-passed-exact : {r : ℕ} {numbers' : List ℕ} → Called (pair 0 2) (filled 16) r numbers'
    → (r ≡ 0) × (numbers' ≡ pair 0 0)
unfolding put_numbers little_of little_all
not-passed-exact called = called_is fails called

pub right_claimed : ListDoorClaim two_bytes (pair 1 1) (filled 16) 1 (pair 13 1)
unfolding put_numbers little_of little_all
right_claimed = list-claim two_bytes (pair 1 1) (filled 16) (is_called passes)

pub not-passed-claimed : ListDoorClaim two_bytes (pair 0 2) (filled 16) 0 (pair 0 0)
unfolding put_numbers little_of little_all
not-passed-claimed = list-claim two_bytes (pair 0 2) (filled 16) (is_called fails)

-- ── faults ──

pub begun_too_many : {r : ℕ} {numbers' : List ℕ} → Called (pair 1 1 ++ 0 ∷ []) (filled 16) r numbers'
    → (r ≡ fault_word PlaceCount) × (numbers' ≡ filled 16)
unfolding entries_of
begun_too_many called =
    (list-claim two_bytes (pair 1 1 ++ 0 ∷ []) (filled 16) called).other_count two_contents room_exact (λ e. omega arith)

pub short_before_count : (places : List ℕ) {r : ℕ} {numbers' : List ℕ} → Called places (filled 15) r numbers'
    → (r ≡ fault_word (Table 0)) × (numbers' ≡ filled 15)
short_before_count places called =
    (list-claim two_bytes places (filled 15) called).table_short two_contents two_read (omega arith)
