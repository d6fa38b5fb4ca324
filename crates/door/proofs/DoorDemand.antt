-- Demand 3 over the bytes of the door (specs/DoorClaim), from the equation that a call ensures (specs/PlanDoor).
--     one_case              every call is one of three, and no call is two of them
--     plan_bytes            a right plan, put to the tables, is what a caller reads there
--     room_answer           an accepted sheet and tables with room: the reply is that to the sheet's day
--     door_claim            the claim holds of what a call returns and leaves in the three tables
--     with_claim            the equation, and the claim with it
--     answered_room         who gets the word 1, 2 or 3 had an accepted sheet and tables with room
use Prim.Native.Nat.{ℕ, ◌*◌, ◌≤◌, ◌<◌}
use native.Mathlib.Omega.{arith}
use mathlib.Core.Path.{◌≡◌, refl, sym, ap, subst, ◌∙◌}
use mathlib.Core.Logic.{◌⊎◌, inl, inr}
use mathlib.Core.Bool.{true, false}
use mathlib.Core.List.{List, [], ◌∷◌}
use lib.ListN.{length, get_or, drop}
use Rattle.bools.proofs.BoolLaws.{clash}
use Rattle.fields.specs.declared.fault.Fault.{Fault}
use Rattle.fields.specs.declared.fault.Fault.TheVariants.{Table}
use Rattle.fields.specs.Contents.{Contents}
use Rattle.frame.specs.Reading.{accepted, read_sheet}
use Rattle.frame.proofs.AcceptedLaws.{accepted_sound}
use Rattle.day.specs.Day.{Day, day_of, place_in, load_of}
use Rattle.day.proofs.LoadLaws.{load_cong}
use Rattle.demand.specs.Demand.{SoundLong}
use Rattle.answers.specs.declared.answer.Answer.{Answer}
use Rattle.answers.specs.declared.answer.Answer.TheVariants.{Plan, Long, None, Fault as Faulty}
use Rattle.answers.specs.declared.answer.PlanAnswer.{PlanAnswer}
use Rattle.answers.specs.Answers.{set_of, Reply, fault_reply, plan_reply, is_plan, is_long}
use Rattle.algorithm.specs.Answer.{answer_to}
use Rattle.algorithm.specs.SoundDay.{AcceptedDay}
use Rattle.algorithm.proofs.SheetDay.{accepted_day}
use Rattle.argument.specs.Answers.{SoundPlan, SoundAnswer, plan_sound, long_sound, none_sound}
use Rattle.argument.specs.Answers.{WholeClaim}
use Rattle.argument.proofs.Theorems.{whole_claim}
use Rattle.blocking.specs.Claim.{SheetRefused, OneCase, Untouched, NamedSet}
use Rattle.blocking.proofs.Claim.{named_set}
use Rattle.tables.specs.Tables.{entry_of, room_of, put_numbers}
use Rattle.tables.specs.Words.{fault_word}
use Rattle.tables.proofs.WordLaws.{fault_word_large}
use Rattle.tables.proofs.EntryLaws.{entry_put, later_kept}
use Rattle.tables.proofs.NumberSteps.{length-put_numbers, put_nothing}
use Rattle.door.specs.DoorClaim.{NoRoomFor, TablesShort, RoomFor, CanAnswer, AllKept, PlanInBytes, DoorClaim}
use Rattle.door.specs.PlanDoor.{door_answer, plan_word, answer_numbers, Called}
use Rattle.door.proofs.PlanLaws.{ReplyFits, reply-fits}
use Rattle.door.proofs.AnswerLaws.{reply_on, door_refused, door_read}
use Rattle.door.proofs.RoomLaws.{Enough, short_or_enough, not-both, short_tested, enough_tested, one_case_of}

-- ── the three kinds of calls ──

module _ (s places loads numbers : List ℕ) where
  enough : {c : Contents} → RoomFor s places loads numbers c → Enough 3 c places loads numbers
  enough t = record { places_enough = omega arith; loads_enough = omega arith; numbers_enough = omega arith }

  room_or_not : (c : Contents) → read_sheet s ≡ accepted c
      → NoRoomFor c places loads numbers ⊎ RoomFor s places loads numbers c
  room_or_not c e = elim (short_or_enough 3 c places loads numbers) [
    | inl short ↦ inl short
    | inr t ↦ inr (record {
      sheet_accepted = e;
      place_to_a_job = omega arith;
      load_to_a_bench = omega arith;
      three_numbers = omega arith;
    })
  ]

  pub one_case : OneCase (SheetRefused s) (TablesShort s places loads numbers) (CanAnswer s places loads numbers)
  one_case =
      one_case_of s (λ c. NoRoomFor c places loads numbers) (RoomFor s places loads numbers)
      room_or_not (λ c t. t.sheet_accepted) (λ c short t. not-both 3 c places loads numbers short (enough t))

-- ── the three answers, with the tables after them ──

-- The three numbers of a plan.
abbrev plan_numbers : PlanAnswer → List ℕ
plan_numbers p = answer_numbers (Plan p)

module _ (d : Day) (places loads : List ℕ) where
  -- Whatever else stands in the answer's table.
  pub plan_bytes : 8 * d.jobs ≤ length places → 8 * d.benches ≤ length loads → (p : PlanAnswer) (ps ls : List ℕ)
      → ReplyFits (plan_reply p ps ls) → SoundPlan d p ps ls → (numbers' : List ℕ)
      → entry_of numbers' 0 ≡ p.largest → entry_of numbers' 1 ≡ p.moves → entry_of numbers' 2 ≡ p.fullest
      → PlanInBytes d places loads (put_numbers ps places) (put_numbers ls loads) numbers'
  plan_bytes lp ll p ps ls fits right numbers' first second third =
      record {
        assignment = record { on_allowed = λ j l. rw (place j l) (right.assignment.on_allowed j l) };
        its_loads = λ v l. load v l ∙ right.its_loads v l ∙ sym (same_load v);
        within_bound = λ v l. rw (load v l) (right.within_bound v l);
        greatest = λ v l. rw (load v l, first) (right.greatest v l);
        one_of_them = let (v, l, e) = right.one_of_them in (v, l, load v l ∙ e ∙ sym first);
        fullest_bench = omega (arith, third, right.fullest_bench);
        fullest_load = rw third (omega (arith, first, load p.fullest right.fullest_bench, right.fullest_load));
        lower_less = λ v l.
            let below : v < p.fullest = omega (arith, third, l) in
            omega (arith, first, load v (omega (arith, right.fullest_bench)), right.lower_less v below);
        few_moves = rw second right.few_moves;
        later_places_kept = later_kept ps places d.jobs right.one_to_a_job;
        later_loads_kept = later_kept ls loads d.benches right.one_to_a_bench;
        as_many_places = length-put_numbers ps places (omega (arith, right.one_to_a_job));
        as_many_loads = length-put_numbers ls loads (omega (arith, right.one_to_a_bench));
      }
    where
      place : (j : ℕ) → j < d.jobs → entry_of (put_numbers ps places) j ≡ place_in ps j
      place j l = entry_put ps places j fits.places_fit (omega (arith, right.one_to_a_job))

      load : (v : ℕ) → v < d.benches → entry_of (put_numbers ls loads) v ≡ get_or ls v 0
      load v l = entry_put ls loads v fits.loads_fit (omega (arith, right.one_to_a_bench))

      same_load : (v : ℕ) → load_of d (entry_of (put_numbers ps places)) v ≡ load_of d (place_in ps) v
      same_load = load_cong d (entry_of (put_numbers ps places)) (place_in ps) place

module _ (d : Day) (places loads numbers : List ℕ) where
  three : {a : Reply} → SoundAnswer d a
      → (plan_word a.answer ≡ 1) ⊎ ((plan_word a.answer ≡ 2) ⊎ (plan_word a.answer ≡ 3))
  three (plan_sound p) = inl refl
  three (long_sound l) = inr (inl refl)
  three (none_sound n) = inr (inr refl)

  abbrev places_then : Reply → List ℕ
  places_then a = put_numbers a.places places

  abbrev loads_then : Reply → List ℕ
  loads_then a = put_numbers a.loads loads

  abbrev numbers_then : Reply → List ℕ
  numbers_then a = put_numbers (answer_numbers a.answer) numbers

  plan_after : 8 * d.jobs ≤ length places → 8 * d.benches ≤ length loads → {a : Reply} → ReplyFits a → SoundAnswer d a
      → plan_word a.answer ≡ 1 → PlanInBytes d places loads (places_then a) (loads_then a) (numbers_then a)
  plan_after lp ll fits (plan_sound {p = p} {places = ps} {loads = ls} right) e =
      plan_bytes d places loads lp ll p ps ls fits right (put_numbers (plan_numbers p) numbers)
      (entry_put (plan_numbers p) numbers 0 fits.numbers_fit (omega arith))
      (entry_put (plan_numbers p) numbers 1 fits.numbers_fit (omega arith))
      (entry_put (plan_numbers p) numbers 2 fits.numbers_fit (omega arith))
  plan_after lp ll fits (long_sound right) e = absurd (omega arith)
  plan_after lp ll fits (none_sound right) e = absurd (omega arith)

  nothing_put : Untouched places loads (put_numbers [] places) (put_numbers [] loads)
  nothing_put = record { same_places = put_nothing places; same_loads = put_nothing loads }

  long_after : {a : Reply} → ReplyFits a → SoundAnswer d a → plan_word a.answer ≡ 2
      → SoundLong d (entry_of (numbers_then a) 0) × (entry_of (numbers_then a) 1 ≡ 0)
      × Untouched places loads (places_then a) (loads_then a)
  long_after fits (plan_sound right) e = absurd (omega arith)
  long_after fits (long_sound {j = j} right) e =
      let first = entry_put (j ∷ 0 ∷ 0 ∷ []) numbers 0 fits.numbers_fit (omega arith) in
      let second = entry_put (j ∷ 0 ∷ 0 ∷ []) numbers 1 fits.numbers_fit (omega arith) in
      (subst (SoundLong d) (sym first) right, second, nothing_put)
  long_after fits (none_sound right) e = absurd (omega arith)

  none_after : AcceptedDay d → d.benches ≤ 64 → {a : Reply} → ReplyFits a → SoundAnswer d a → plan_word a.answer ≡ 3
      → NamedSet d (record { set = entry_of (numbers_then a) 0; moves = entry_of (numbers_then a) 1 })
      × Untouched places loads (places_then a) (loads_then a)
  none_after day-ok few fits (plan_sound right) e = absurd (omega arith)
  none_after day-ok few fits (long_sound right) e = absurd (omega arith)
  none_after day-ok few fits (none_sound {benches = bs} {moves = moves} right) e =
      let first = entry_put (set_of bs ∷ moves ∷ 0 ∷ []) numbers 0 fits.numbers_fit (omega arith) in
      let second = entry_put (set_of bs ∷ moves ∷ 0 ∷ []) numbers 1 fits.numbers_fit (omega arith) in
      (rw (first, second) (named_set d day-ok few bs moves right), nothing_put)

  -- The third number of a long and of a none.
  third_after : {a : Reply} → ReplyFits a → SoundAnswer d a → (plan_word a.answer ≡ 2) ⊎ (plan_word a.answer ≡ 3)
      → entry_of (numbers_then a) 2 ≡ 0
  third_after fits (plan_sound right) e = elim e [ inl p ↦ absurd (omega arith) | inr p ↦ absurd (omega arith) ]
  third_after fits (long_sound {j = j} right) e =
      entry_put (j ∷ 0 ∷ 0 ∷ []) numbers 2 fits.numbers_fit (omega arith)
  third_after fits (none_sound {benches = bs} {moves = moves} right) e =
      entry_put (set_of bs ∷ moves ∷ 0 ∷ []) numbers 2 fits.numbers_fit (omega arith)

  three_kept : 24 ≤ length numbers → (a b e : ℕ)
      → (drop 24 (put_numbers (a ∷ b ∷ e ∷ []) numbers) ≡ drop 24 numbers)
      × (length (put_numbers (a ∷ b ∷ e ∷ []) numbers) ≡ length numbers)
  three_kept room a b e =
      (later_kept (a ∷ b ∷ e ∷ []) numbers 3 refl, length-put_numbers (a ∷ b ∷ e ∷ []) numbers (omega arith))

  numbers_after : 24 ≤ length numbers → {a : Reply} → SoundAnswer d a
      → (drop 24 (numbers_then a) ≡ drop 24 numbers) × (length (numbers_then a) ≡ length numbers)
  numbers_after room (plan_sound {p = p} right) = three_kept room p.largest p.moves p.fullest
  numbers_after room (long_sound {j = j} right) = three_kept room j 0 0
  numbers_after room (none_sound {benches = bs} {moves = moves} right) = three_kept room (set_of bs) moves 0

plan_word_lem : (a : Answer) → is_plan a ≡ true → plan_word a ≡ 1
plan_word_lem (Plan p) e = refl
plan_word_lem (Long l) e = clash {b = false} e refl
plan_word_lem (None n) e = clash {b = false} e refl
plan_word_lem (Faulty f) e = clash {b = false} e refl

no_plan : (a : Answer) → 1 < plan_word a → is_plan a ≡ false
no_plan (Plan p) l = absurd (omega arith)
no_plan (Long j) l = refl
no_plan (None n) l = refl
no_plan (Faulty f) l = refl

long_word : (a : Answer) → is_long a ≡ true → plan_word a ≡ 2
long_word (Plan p) e = clash {b = false} e refl
long_word (Long l) e = refl
long_word (None n) e = clash {b = false} e refl
long_word (Faulty f) e = clash {b = false} e refl

no_long : (a : Answer) → (plan_word a ≡ 1) ⊎ (plan_word a ≡ 3) → is_long a ≡ false
no_long (Plan p) e = refl
no_long (Long l) e = elim e [ inl p ↦ absurd (omega arith) | inr p ↦ absurd (omega arith) ]
no_long (None n) e = refl
no_long (Faulty f) e = refl

-- ── the claim ──

module _ (s places loads numbers : List ℕ) where
  abbrev reply : Reply
  reply = door_answer s (room_of places) (room_of loads) (room_of numbers)

  fault-after : (f : Fault) → reply ≡ fault_reply f
      → (plan_word reply.answer ≡ fault_word f)
      × AllKept places loads numbers
      (put_numbers reply.places places) (put_numbers reply.loads loads)
      (put_numbers (answer_numbers reply.answer) numbers)
  fault-after f e = (
    ap (λ (a : Reply). plan_word a.answer) e,
    record {
      both_tables =
          record {
            same_places = ap (λ (a : Reply). put_numbers a.places places) e ∙ put_nothing places;
            same_loads = ap (λ (a : Reply). put_numbers a.loads loads) e ∙ put_nothing loads;
          };
      same_numbers = ap (λ (a : Reply). put_numbers (answer_numbers a.answer) numbers) e ∙ put_nothing numbers;
    },
  )

  reply-short : (c : Contents) → read_sheet s ≡ accepted c → NoRoomFor c places loads numbers
      → reply ≡ fault_reply (Table 0)
  reply-short c e short =
      door_read s (room_of places) (room_of loads) (room_of numbers) c e
      ∙ ap (reply_on c) (short_tested 3 c places loads numbers short)

  module _ (c : Contents) (t : RoomFor s places loads numbers c) where
    day_accepted : AcceptedDay (day_of c)
    day_accepted = accepted_day c (accepted_sound s c t.sheet_accepted)

    few_benches : c.head.benches ≤ 64
    few_benches = (accepted_sound s c t.sheet_accepted).head.at_most_64_benches

    pub room_answer : reply ≡ answer_to (day_of c)
    room_answer =
        door_read s (room_of places) (room_of loads) (room_of numbers) c t.sheet_accepted
        ∙ ap (reply_on c) (enough_tested 3 c places loads numbers (enough s places loads numbers t))

    whole : WholeClaim (day_of c) reply
    whole = subst (WholeClaim (day_of c)) (sym room_answer) (whole_claim (day_of c) day_accepted)

  fits : ReplyFits reply
  fits = reply-fits s (room_of places) (room_of loads) (room_of numbers)

  given_claim : DoorClaim s places loads numbers (plan_word reply.answer)
      (put_numbers reply.places places) (put_numbers reply.loads loads)
      (put_numbers (answer_numbers reply.answer) numbers)
  given_claim =
      record {
        one_case = one_case s places loads numbers;
        sheet_refused = λ f e. fault-after f (door_refused s (room_of places) (room_of loads) (room_of numbers) f e);
        tables_short = λ c e short. fault-after (Table 0) (reply-short c e short);
        one_of_three = λ c t. three (day_of c) places loads numbers (whole c t).sound;
        plan_right = λ c t.
            plan_after (day_of c) places loads numbers t.place_to_a_job t.load_to_a_bench fits (whole c t).sound;
        long_right = λ c t. long_after (day_of c) places loads numbers fits (whole c t).sound;
        long_given = λ c t j l. long_word reply.answer ((whole c t).long_given j l);
        plan_fits = λ c t e. (whole c t).else_fits (no_long reply.answer (inl e));
        none_fits = λ c t e. (whole c t).else_fits (no_long reply.answer (inr e));
        none_right = λ c t.
            none_after (day_of c) places loads numbers (day_accepted c t) (few_benches c t) fits (whole c t).sound;
        no_fullest = λ c t other.
            omega (arith, third_after (day_of c) places loads numbers fits (whole c t).sound other);
        later_numbers_kept = λ c t. numbers_after (day_of c) places loads numbers t.three_numbers (whole c t).sound;
        rival_planned = λ c t a x keeps. plan_word_lem reply.answer ((whole c t).rival_planned a x keeps);
        over_after_long = λ c t e. (whole c t).else_over (no_plan reply.answer (omega arith));
        over_after_none = λ c t e. (whole c t).else_over (no_plan reply.answer (omega arith));
      }

  pub door_claim : {r : ℕ} {places' loads' numbers' : List ℕ}
      → Called reply r places loads numbers places' loads' numbers'
      → DoorClaim s places loads numbers r places' loads' numbers'
  door_claim called = rw (called.word, called.new_places, called.new_loads, called.new_numbers) given_claim

  pub with_claim : {r : ℕ} {places' loads' numbers' : List ℕ}
      → Called reply r places loads numbers places' loads' numbers'
      → Called reply r places loads numbers places' loads' numbers'
      × DoorClaim s places loads numbers r places' loads' numbers'
  with_claim called = (called, door_claim called)

-- The word of a fault is none of the three.
pub answered_room : {s places loads numbers : List ℕ} {r : ℕ} {places' loads' numbers' : List ℕ}
    → DoorClaim s places loads numbers r places' loads' numbers' → (r ≡ 1) ⊎ ((r ≡ 2) ⊎ (r ≡ 3))
    → CanAnswer s places loads numbers
answered_room {r = r} claim word =
    let small : r < 4 = elim word [ inl e ↦ omega arith | inr (inl e) ↦ omega arith | inr (inr e) ↦ omega arith ] in
    elim claim.one_case.some [
      | inl (f, e) ↦ absurd (omega (arith, (claim.sheet_refused f e).0, fault_word_large f))
      | inr (inl (c, e, short)) ↦ absurd (omega (arith, (claim.tables_short c e short).0, fault_word_large (Table 0)))
      | inr (inr can) ↦ can
    ]
