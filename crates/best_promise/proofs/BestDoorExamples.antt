-- A sheet through the C door, from its bytes to the word and the bytes of the three tables: two benches, bench 0 booked
-- for 3, a job of 5 on bench 0 and one of 2 on both. Each table has exactly the needed size.
--     booked_read         its sheet is accepted
--     booked-best         the reply to it: 10, 5, 2 and 4 are run, and 5 is the best target
--     room_exact          these tables are large enough
--     called_exact        what a call returns, and every byte that it leaves in the tables
--     right_claimed       the claim holds of them
--     numbers_short       with one byte less for the answer the call is fault 13, and changes nothing
use Prim.Native.Nat.{ℕ}
use mathlib.Core.Path.{◌≡◌, refl, ap, sym, ◌∙◌}
use mathlib.Core.Logic.{inr}
use mathlib.Core.List.{List, [], ◌∷◌}
use native.Mathlib.Omega.{arith}
use Rattle.bits.specs.Bits.{is_set}
use Rattle.bits.specs.Little.{little_of, little_all}
use Rattle.sums.specs.Members.{members}
use Rattle.sums.specs.Sum.{fullest}
use Rattle.closure.specs.Closure.{grow, closure, reach}
use Rattle.fields.specs.declared.fault.Fault.TheVariants.{Table}
use Rattle.fields.specs.Contents.{Contents}
use Rattle.fields.specs.Tests.{booked_faults, hyper_edge_verdict}
use Rattle.fields.specs.Format.{booked_from, sheet_bytes}
use Rattle.frame.specs.Writing.{jobs_verdict, opening_verdict, writer_verdict}
use Rattle.frame.specs.Reading.{accepted, read_sheet}
use Rattle.frame.proofs.RoundTrip.{write_read_computed}
use Rattle.day.specs.Day.{day_of, long_job}
use Rattle.day.specs.SmallSheets.{booked_sheet, bay, first, both}
use Rattle.answers.specs.BestAnswers.{BestReply}
use Rattle.algorithm.specs.Rocks.{lowest, highest}
use Rattle.algorithm.specs.Board.{rock_load}
use Rattle.algorithm.specs.Forced.{inner, outer}
use Rattle.algorithm.specs.Explore.{conflict_set, construct, activate, open_round, rounds, explore}
use Rattle.algorithm.specs.Settle.{follow, settle_from}
use Rattle.algorithm.specs.Start.{crowded_bench, one_cycle, peel, start}
use Rattle.algorithm.specs.Run.{own_minutes, answer_at, turns, run}
use Rattle.algorithm.specs.Best.{gives_plan, seek, searched, best_to}
use Rattle.algorithm.specs.BestExamples.{best}
use Rattle.tables.specs.Tables.{put_numbers}
use Rattle.tables.specs.Words.{fault_word}
use Rattle.door.specs.DoorClaim.{AllKept}
use Rattle.door.proofs.DoorExamples.{filled, entry, pair}
use Rattle.best_promise.specs.BestDoor.{door_best, best_word, best_numbers, BestCalled}
use Rattle.best_promise.specs.BestDoorClaim.{RoomForBest, BestDoorClaim}
use Rattle.best_promise.proofs.BestReplies.{door_read}
use Rattle.best_promise.proofs.BestDemand.{best_claim}

-- The target of its head is not looked at.
abbrev pub booked_contents : Contents
booked_contents = booked_sheet (bay 2 4 7 9) (3 ∷ []) (first 5 ∷ both 2 ∷ [])

abbrev pub booked_bytes : List ℕ
booked_bytes = sheet_bytes booked_contents

-- Target 5, 4 targets run; largest load 8, one move, fullest bench 0; places 0 and 1, loads 8 and 2.
abbrev pub booked_reply : BestReply
booked_reply = best 5 4 8 1 0 (0 ∷ 1 ∷ []) (8 ∷ 2 ∷ [])

pub booked_read : read_sheet booked_bytes ≡ accepted booked_contents
unfolding is_set hyper_edge_verdict booked_from booked_faults jobs_verdict opening_verdict writer_verdict
booked_read = write_read_computed booked_contents refl refl refl

pub booked-best : best_to (day_of booked_contents) ≡ booked_reply
unfolding fullest is_set grow closure reach booked_from lowest highest long_job rock_load inner outer conflict_set construct
    activate open_round rounds explore follow settle_from crowded_bench one_cycle peel start own_minutes answer_at turns run
    members gives_plan seek searched
booked-best = refl

-- The five numbers of an answer.
abbrev pub five : ℕ → ℕ → ℕ → ℕ → ℕ → List ℕ
five target largest moves fullest runs =
    entry target (entry largest (entry moves (entry fullest (entry runs []))))

pub room_exact : RoomForBest booked_bytes (filled 16) (filled 16) (filled 40) booked_contents
room_exact = record {
  sheet_accepted = booked_read;
  place_to_a_job = omega arith;
  load_to_a_bench = omega arith;
  five_numbers = omega arith;
}

replies : door_best booked_bytes 2 2 5 ≡ booked_reply
replies = door_read booked_bytes 2 2 5 booked_contents booked_read ∙ booked-best

abbrev Called : List ℕ → ℕ → ℕ → List ℕ → List ℕ → List ℕ → Type 0
Called numbers na r places' loads' numbers' =
    BestCalled (door_best booked_bytes 2 2 na) r (filled 16) (filled 16) numbers places' loads' numbers'

pub called_exact : {r : ℕ} {places' loads' numbers' : List ℕ} → Called (filled 40) 5 r places' loads' numbers'
    → (r ≡ 1) × (places' ≡ pair 0 1) × (loads' ≡ pair 8 2) × (numbers' ≡ five 5 8 1 0 4)
unfolding put_numbers little_of little_all
called_exact called = (
  called.word ∙ ap (λ (a : BestReply). best_word a.answer) replies,
  called.new_places ∙ ap (λ (a : BestReply). put_numbers a.places (filled 16)) replies,
  called.new_loads ∙ ap (λ (a : BestReply). put_numbers a.loads (filled 16)) replies,
  called.new_numbers ∙ ap (λ (a : BestReply). put_numbers (best_numbers a.answer) (filled 40)) replies,
)

pub right_claimed :
    BestDoorClaim booked_bytes (filled 16) (filled 16) (filled 40) 1
    (pair 0 1) (pair 8 2) (five 5 8 1 0 4)
unfolding put_numbers little_of little_all
right_claimed =
    best_claim booked_bytes (filled 16) (filled 16) (filled 40)
    (record {
      word = sym (ap (λ (a : BestReply). best_word a.answer) replies);
      new_places = sym (ap (λ (a : BestReply). put_numbers a.places (filled 16)) replies);
      new_loads = sym (ap (λ (a : BestReply). put_numbers a.loads (filled 16)) replies);
      new_numbers = sym (ap (λ (a : BestReply). put_numbers (best_numbers a.answer) (filled 40)) replies);
    })

pub numbers_short : {r : ℕ} {places' loads' numbers' : List ℕ} → Called (filled 39) 4 r places' loads' numbers'
    → (r ≡ fault_word (Table 0)) × AllKept (filled 16) (filled 16) (filled 39) places' loads' numbers'
numbers_short called =
    let claim = best_claim booked_bytes (filled 16) (filled 16) (filled 39) called in
    claim.tables_short booked_contents booked_read (inr (inr (omega arith)))
