-- The reply at the door, by what the sheet is read as and by the room in the tables.
--     reply_on c short            the reply to the contents c: fault 13 where a table is short
--     door_refused, door_read     the reply by whether the sheet is read
--     answer_refused, answer_read     the same of the planner's reply
--     Faulted, Roomy              a fault, with a place of at most 65536; or the sheet is read, every table has room
--                                 (RoomLaws), and the reply is right
--     fault_or_room               every reply is one of these
--     places_few, loads_few       the reply has at most 512 places and 64 loads, and no more than there is room for
use Prim.Native.Nat.{ℕ, ◌≤◌}
use native.Mathlib.Nat.{le_trans}
use native.Mathlib.Omega.{arith}
use mathlib.Core.Path.{◌≡◌, sym, ap, subst, ◌∙◌}
use mathlib.Core.Logic.{◌⊎◌, inl, inr}
use mathlib.Core.Bool.{Bool, cond, ◌||◌}
use mathlib.Core.List.{List}
use lib.ListN.{length}
use lib.Dec.{ltb}
use Rattle.fields.specs.declared.fault.Fault.{Fault}
use Rattle.fields.specs.declared.fault.Fault.TheVariants.{Table}
use Rattle.fields.specs.Contents.{Contents}
use Rattle.fields.specs.Numbers.{place_of}
use Rattle.frame.specs.Reading.{accepted, refused, read_sheet}
use Rattle.day.specs.Day.{Day, day_of}
use Rattle.answers.specs.Answers.{Reply, fault_reply}
use Rattle.algorithm.specs.Answer.{answer_to, short_tables, answer_for}
use Rattle.algorithm.proofs.SheetDay.{accepted_day}
use Rattle.argument.specs.Answers.{SoundAnswer, plan_sound, long_sound, none_sound}
use Rattle.argument.proofs.Theorems.{whole_claim}
use Rattle.door.specs.PlanDoor.{door_answer}
use Rattle.door.proofs.RoomLaws.{ReadRoom, RoomCase, sheet_refused, tables_short, room_there, room_case}

abbrev pub reply_on : Contents → Bool → Reply
reply_on c short = cond short (fault_reply (Table 0)) (answer_to (day_of c))

module _ (s : List ℕ) (np nl : ℕ) where
  pub answer_refused : (f : Fault) → read_sheet s ≡ refused f → answer_for s np nl ≡ fault_reply f
  unfolding answer_for
  answer_refused f e = rw (e, answer_for)

  pub answer_read : (c : Contents) → read_sheet s ≡ accepted c → answer_for s np nl ≡ reply_on c (short_tables c np nl)
  unfolding answer_for
  answer_read c e = rw (e, answer_for)

-- ── a fault, or room ──

pub record Faulted (s : List ℕ) (np nl na : ℕ) : Type 0 where
  pub fault : Fault
  pub near : place_of fault ≤ 65536
  pub replies : door_answer s np nl na ≡ fault_reply fault

pub record Roomy (s : List ℕ) (np nl na : ℕ) : Type 0 where
  pub room : ReadRoom 3 s np nl na
  pub sound_answer : SoundAnswer (day_of room.contents) (door_answer s np nl na)

module _ (s : List ℕ) (np nl na : ℕ) where
  pub door_refused : (f : Fault) → read_sheet s ≡ refused f → door_answer s np nl na ≡ fault_reply f
  unfolding door_answer
  door_refused f e = rw (e, door_answer)

  pub door_read : (c : Contents) → read_sheet s ≡ accepted c
      → door_answer s np nl na ≡ reply_on c (short_tables c np nl || ltb na 3)
  unfolding door_answer
  door_read c e = rw (e, door_answer)

  by_room : RoomCase 3 s np nl na → Faulted s np nl na ⊎ Roomy s np nl na
  by_room (sheet_refused f e near) = inl (record { fault = f; near = near; replies = door_refused f e })
  by_room (tables_short c e b) =
      inl (record { fault = Table 0; near = omega arith; replies = door_read c e ∙ ap (reply_on c) b })
  by_room (room_there r) =
      let c = r.contents in
      let given = (whole_claim (day_of c) (accepted_day c r.sound_sheet)).sound in
      let replies = door_read c r.sheet_read ∙ ap (reply_on c) r.tested in
      inr (record { room = r; sound_answer = subst (SoundAnswer (day_of c)) (sym replies) given })

  pub fault_or_room : Faulted s np nl na ⊎ Roomy s np nl na
  fault_or_room = by_room (room_case 3 s np nl na)

-- ── how many places and loads a reply has ──

few_entries : (d : Day) {a : Reply} → SoundAnswer d a
    → (length a.places ≤ d.jobs) × (length a.loads ≤ d.benches)
few_entries d (plan_sound p) = (omega (arith, p.one_to_a_job), omega (arith, p.one_to_a_bench))
few_entries d (long_sound l) = (omega arith, omega arith)
few_entries d (none_sound n) = (omega arith, omega arith)

module _ (s : List ℕ) (np nl na : ℕ) where
  pub places_few : (length (door_answer s np nl na).places ≤ np) × (length (door_answer s np nl na).places ≤ 512)
  places_few = elim (fault_or_room s np nl na) [
    | inl f ↦ rw f.replies (omega arith, omega arith)
    | inr r ↦
        let few = (few_entries (day_of r.room.contents) r.sound_answer).0 in
        (le_trans few r.room.jobs_fit, le_trans few r.room.sound_sheet.at_most_512_jobs)
  ]

  pub loads_few : (length (door_answer s np nl na).loads ≤ nl) × (length (door_answer s np nl na).loads ≤ 64)
  loads_few = elim (fault_or_room s np nl na) [
    | inl f ↦ rw f.replies (omega arith, omega arith)
    | inr r ↦
        let few = (few_entries (day_of r.room.contents) r.sound_answer).1 in
        (le_trans few r.room.benches_fit, le_trans few r.room.sound_sheet.head.at_most_64_benches)
  ]
