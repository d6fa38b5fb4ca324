-- What is promised of the best target over the bytes of the door (specs/BestDoorClaim), from the equation that a call
-- ensures (specs/BestDoor).
--     one_case              every call is one of three, and no call is two of them
--     room-reply            an accepted sheet and tables with room: the reply is that of the search to the sheet's day
--     best_in_lem           the answer's table after it: the target found, with its plan and the targets run
--     best_claim            the claim holds of what a call returns and leaves in the three tables
--     with_claim            the equation, and the claim with it
--     answered_room         who gets the word 1 had an accepted sheet and tables with room
use Prim.Native.Nat.{ℕ, ◌*◌, ◌≤◌, ◌<◌}
use native.Mathlib.Omega.{arith}
use mathlib.Core.Path.{◌≡◌, refl, sym, ap, subst, ◌∙◌}
use mathlib.Core.Logic.{◌⊎◌, inl, inr}
use mathlib.Core.List.{List}
use lib.ListN.{length, get_or, drop}
use Rattle.fields.specs.declared.fault.Fault.{Fault}
use Rattle.fields.specs.declared.fault.Fault.TheVariants.{Table}
use Rattle.fields.specs.Contents.{Contents}
use Rattle.frame.specs.Reading.{accepted, read_sheet}
use Rattle.frame.specs.Sound.{SoundSheet}
use Rattle.frame.proofs.AcceptedLaws.{accepted_sound}
use Rattle.day.specs.Day.{day_of, with_target}
use Rattle.answers.specs.declared.best.BestAnswer.TheVariants.{Best}
use Rattle.answers.specs.BestAnswers.{best_of, BestReply, best_fault}
use Rattle.algorithm.specs.Best.{best_target, best_to}
use Rattle.algorithm.proofs.SheetDay.{accepted_at}
use Rattle.argument.specs.Best.{Vouched}
use Rattle.argument.proofs.BestTheorems.{start_planned}
use Rattle.blocking.specs.Claim.{SheetRefused, OneCase}
use Rattle.tables.specs.Tables.{entry_of, room_of, put_numbers}
use Rattle.tables.specs.Words.{fault_word}
use Rattle.tables.proofs.WordLaws.{fault_word_large}
use Rattle.tables.proofs.EntryLaws.{entry_put, entry_after, later_kept}
use Rattle.tables.proofs.NumberSteps.{length-put_numbers, put_nothing}
use Rattle.door.specs.DoorClaim.{AllKept, PlanInBytes}
use Rattle.door.proofs.RoomLaws.{Enough, short_or_enough, not-both, short_tested, enough_tested, one_case_of}
use Rattle.door.proofs.PlanLaws.{plan_fits}
use Rattle.door.proofs.DoorDemand.{plan_bytes}
use Rattle.best_promise.specs.BestDoor.{door_best, best_word, best_numbers, BestCalled}
use Rattle.best_promise.specs.BestDoorClaim.{NoRoomForBest, ShortForBest, RoomForBest, CanAnswerBest}
use Rattle.best_promise.specs.BestDoorClaim.{best_in, BestDoorClaim}
use Rattle.best_promise.proofs.BestReplies.{best_on, door_refused, door_read}
use Rattle.best_promise.proofs.BestReplies.{found_plan, found, best_plan, best_vouched, best_fits}

-- ── the three kinds of calls ──

module _ (s places loads numbers : List ℕ) where
  enough : {c : Contents} → RoomForBest s places loads numbers c → Enough 5 c places loads numbers
  enough t = record { places_enough = omega arith; loads_enough = omega arith; numbers_enough = omega arith }

  room_or_not : (c : Contents) → read_sheet s ≡ accepted c
      → NoRoomForBest c places loads numbers ⊎ RoomForBest s places loads numbers c
  room_or_not c e = elim (short_or_enough 5 c places loads numbers) [
    | inl short ↦ inl short
    | inr t ↦ inr (record {
      sheet_accepted = e;
      place_to_a_job = omega arith;
      load_to_a_bench = omega arith;
      five_numbers = omega arith;
    })
  ]

  pub one_case : OneCase (SheetRefused s)
      (ShortForBest s places loads numbers) (CanAnswerBest s places loads numbers)
  one_case =
      one_case_of s (λ c. NoRoomForBest c places loads numbers) (RoomForBest s places loads numbers)
      room_or_not (λ c t. t.sheet_accepted) (λ c short t. not-both 5 c places loads numbers short (enough t))

-- ── a best target, with the tables after it ──

same_best : {t l m v n t' l' m' v' n' : ℕ} → t ≡ t' → l ≡ l' → m ≡ m' → v ≡ v' → n ≡ n'
    → best_of t l m v n ≡ best_of t' l' m' v' n'
same_best a b c d e = rw (a, b, c, d, e)

module _ (c : Contents) (sound : SoundSheet c) (numbers : List ℕ) where
  abbrev values : List ℕ
  values = best_numbers (Best (found c))

  abbrev numbers_then : List ℕ
  numbers_then = put_numbers values numbers

  number : (i : ℕ) → i < 5 → entry_of numbers_then i ≡ get_or values i 0
  number i l = entry_put values numbers i (best_fits c sound).numbers_fit l

  pub best_in_lem : best_in numbers_then ≡ found c
  best_in_lem =
      same_best (number 0 (omega arith)) (number 1 (omega arith)) (number 2 (omega arith)) (number 3 (omega arith))
      (number 4 (omega arith))

  plan_then : (places loads : List ℕ) → 8 * length c.jobs ≤ length places → 8 * c.head.benches ≤ length loads
      → PlanInBytes (with_target (day_of c) (entry_of numbers_then 0)) places loads
      (put_numbers (best_to (day_of c)).places places) (put_numbers (best_to (day_of c)).loads loads) (drop 8 numbers_then)
  plan_then places loads lp ll =
      let ps : List ℕ = (best_to (day_of c)).places in
      let ls : List ℕ = (best_to (day_of c)).loads in
      let target : ℕ = best_target (day_of c) in
      let right = best_plan c sound in
      let fits = plan_fits c sound target (found_plan c) ps ls right in
      subst
      (λ (t : ℕ).
      PlanInBytes (with_target (day_of c) t) places loads (put_numbers ps places) (put_numbers ls loads)
      (drop 8 numbers_then))
      (sym (number 0 (omega arith)))
      (plan_bytes (with_target (day_of c) target) places loads lp ll (found_plan c) ps ls fits right (drop 8 numbers_then)
      (entry_after 1 0 numbers_then ∙ number 1 (omega arith))
      (entry_after 1 1 numbers_then ∙ number 2 (omega arith))
      (entry_after 1 2 numbers_then ∙ number 3 (omega arith)))

  numbers_after : 40 ≤ length numbers
      → (drop 40 numbers_then ≡ drop 40 numbers) × (length numbers_then ≡ length numbers)
  numbers_after room = (later_kept values numbers 5 refl, length-put_numbers values numbers (omega arith))

-- ── the claim ──

module _ (s places loads numbers : List ℕ) where
  abbrev reply : BestReply
  reply = door_best s (room_of places) (room_of loads) (room_of numbers)

  fault-after : (f : Fault) → reply ≡ best_fault f
      → (best_word reply.answer ≡ fault_word f)
      × AllKept places loads numbers
      (put_numbers reply.places places) (put_numbers reply.loads loads)
      (put_numbers (best_numbers reply.answer) numbers)
  fault-after f e = (
    ap (λ (a : BestReply). best_word a.answer) e,
    record {
      both_tables =
          record {
            same_places = ap (λ (a : BestReply). put_numbers a.places places) e ∙ put_nothing places;
            same_loads = ap (λ (a : BestReply). put_numbers a.loads loads) e ∙ put_nothing loads;
          };
      same_numbers = ap (λ (a : BestReply). put_numbers (best_numbers a.answer) numbers) e ∙ put_nothing numbers;
    },
  )

  reply-short : (c : Contents) → read_sheet s ≡ accepted c → NoRoomForBest c places loads numbers
      → reply ≡ best_fault (Table 0)
  reply-short c e short =
      door_read s (room_of places) (room_of loads) (room_of numbers) c e
      ∙ ap (best_on c) (short_tested 5 c places loads numbers short)

  module _ (c : Contents) (t : RoomForBest s places loads numbers c) where
    sound : SoundSheet c
    sound = accepted_sound s c t.sheet_accepted

    pub room-reply : reply ≡ best_to (day_of c)
    room-reply =
        door_read s (room_of places) (room_of loads) (room_of numbers) c t.sheet_accepted
        ∙ ap (best_on c) (enough_tested 5 c places loads numbers (enough s places loads numbers t))

  given_claim : BestDoorClaim s places loads numbers (best_word reply.answer)
      (put_numbers reply.places places) (put_numbers reply.loads loads)
      (put_numbers (best_numbers reply.answer) numbers)
  given_claim =
      record {
        one_case = one_case s places loads numbers;
        sheet_refused = λ f e. fault-after f (door_refused s (room_of places) (room_of loads) (room_of numbers) f e);
        tables_short = λ c e short. fault-after (Table 0) (reply-short c e short);
        start_planned = λ c t. start_planned (day_of c) (accepted_at c (sound c t));
        best_given = λ c t. ap (λ (a : BestReply). best_word a.answer) (room-reply c t);
        vouched = λ c t.
            rw (room-reply c t)
            (subst (Vouched (day_of c)) (sym (best_in_lem c (sound c t) numbers)) (best_vouched c (sound c t)));
        plan_right = λ c t.
            rw (room-reply c t) (plan_then c (sound c t) numbers places loads t.place_to_a_job t.load_to_a_bench);
        later_numbers_kept = λ c t.
            rw (room-reply c t) (numbers_after c (sound c t) numbers t.five_numbers);
      }

  pub best_claim : {r : ℕ} {places' loads' numbers' : List ℕ}
      → BestCalled reply r places loads numbers places' loads' numbers'
      → BestDoorClaim s places loads numbers r places' loads' numbers'
  best_claim called = rw (called.word, called.new_places, called.new_loads, called.new_numbers) given_claim

  pub with_claim : {r : ℕ} {places' loads' numbers' : List ℕ}
      → BestCalled reply r places loads numbers places' loads' numbers'
      → BestCalled reply r places loads numbers places' loads' numbers'
      × BestDoorClaim s places loads numbers r places' loads' numbers'
  with_claim called = (called, best_claim called)

-- The word of a fault is not 1.
pub answered_room : {s places loads numbers : List ℕ} {places' loads' numbers' : List ℕ}
    → BestDoorClaim s places loads numbers 1 places' loads' numbers' → CanAnswerBest s places loads numbers
answered_room claim = elim claim.one_case.some [
  | inl (f, e) ↦ absurd (omega (arith, (claim.sheet_refused f e).0, fault_word_large f))
  | inr (inl (c, e, short)) ↦ absurd (omega (arith, (claim.tables_short c e short).0, fault_word_large (Table 0)))
  | inr (inr can) ↦ can
]
