-- The reply at the door to who asks for the best target, by what the sheet is read as and by the room in the tables.
--     best_on c short             the reply to the contents c: fault 13 where a table is short
--     door_refused, door_read     the reply by whether the sheet is read
--     best_refused, best_read     the same of the search's reply to a sheet
--     best_capped                 with room for at most 512 places and 64 loads the reply is the same, and fault 13
--                                 without room for loads
--     Faulted, Roomy              a fault; or the sheet is read, every table has room, and the reply is the search's
--     fault_or_room               every reply is one of these
--     found_day, found_plan, found  the day with the target found; the plan there; both with the targets run
--     best_plan, best_vouched     that plan is right for that day; the target is one that can be vouched for
--     places_few, loads_few       the reply has at most 512 places and 64 loads, and no more than there is room for
--     BestFits, best_fits         the numbers of a reply with a target have at most 8 bytes
use Prim.Native.Nat.{ℕ, zero, suc, ◌^◌, ◌≤◌, ◌<◌, min}
use native.Mathlib.Omega.{arith}
use mathlib.Core.Path.{◌≡◌, sym, ap, ◌∙◌}
use mathlib.Core.Logic.{◌⊎◌, inl, inr}
use mathlib.Core.Bool.{Bool, cond}
use mathlib.Core.List.{List, [], ◌∷◌}
use lib.ListN.{length}
use lib.Dec.{ltb}
use Rattle.fields.specs.declared.fault.Fault.{Fault}
use Rattle.fields.specs.declared.fault.Fault.TheVariants.{Table}
use Rattle.fields.specs.Contents.{Contents}
use Rattle.frame.specs.Reading.{accepted, refused, read_sheet}
use Rattle.frame.specs.Sound.{SoundSheet}
use Rattle.frame.proofs.Stored.{read_cases}
use Rattle.day.specs.Day.{Day, day_of, with_target}
use Rattle.answers.specs.declared.answer.PlanAnswer.{PlanAnswer}
use Rattle.answers.specs.declared.best.BestPlan.{BestPlan}
use Rattle.answers.specs.BestAnswers.{plan_in, BestReply, best_fault}
use Rattle.algorithm.specs.Answer.{answer_to, short_tables}
use Rattle.algorithm.specs.Best.{best_target, targets_run, best_to, best_for}
use Rattle.algorithm.proofs.SheetDay.{accepted_at, start_fits}
use Rattle.argument.specs.Answers.{SoundPlan}
use Rattle.argument.specs.Best.{Vouched}
use Rattle.argument.proofs.BestTheorems.{best_sound, vouched}
use Rattle.tables.proofs.EntryLaws.{Fit}
use Rattle.door.proofs.RoomLaws.{too_few, ReadRoom, RoomCase, sheet_refused, tables_short, room_there, room_case, capped}
use Rattle.door.proofs.PlanLaws.{plan_fits}
use Rattle.best_promise.specs.BestDoor.{door_best, best_numbers}

abbrev pub best_on : Contents → Bool → BestReply
best_on c short = cond short (best_fault (Table 0)) (best_to (day_of c))

module _ (s : List ℕ) (np nl : ℕ) where
  best_refused : (f : Fault) → read_sheet s ≡ refused f → best_for s np nl ≡ best_fault f
  unfolding best_for
  best_refused f e = rw (e, best_for)

  best_read : (c : Contents) → read_sheet s ≡ accepted c → best_for s np nl ≡ best_on c (short_tables c np nl)
  unfolding best_for
  best_read c e = rw (e, best_for)

-- ── a fault, or room ──

pub record Faulted (s : List ℕ) (np nl na : ℕ) : Type 0 where
  pub fault : Fault
  pub replies : door_best s np nl na ≡ best_fault fault

pub record Roomy (s : List ℕ) (np nl na : ℕ) : Type 0 where
  pub room : ReadRoom 5 s np nl na
  pub replies : door_best s np nl na ≡ best_to (day_of room.contents)

module _ (s : List ℕ) (np nl na : ℕ) where
  pub door_refused : (f : Fault) → read_sheet s ≡ refused f → door_best s np nl na ≡ best_fault f
  unfolding door_best
  door_refused f e = rw (e, door_best)

  pub door_read : (c : Contents) → read_sheet s ≡ accepted c → door_best s np nl na ≡ best_on c (too_few 5 c np nl na)
  unfolding door_best
  door_read c e = rw (e, door_best)

  by_room : RoomCase 5 s np nl na → Faulted s np nl na ⊎ Roomy s np nl na
  by_room (sheet_refused f e near) = inl (record { fault = f; replies = door_refused f e })
  by_room (tables_short c e b) = inl (record { fault = Table 0; replies = door_read c e ∙ ap (best_on c) b })
  by_room (room_there r) =
      inr (record {
        room = r;
        replies = door_read r.contents r.sheet_read ∙ ap (best_on r.contents) r.tested;
      })

  pub fault_or_room : Faulted s np nl na ⊎ Roomy s np nl na
  fault_or_room = by_room (room_case 5 s np nl na)

  pub best_capped : best_for s (min np 512) (cond (ltb na 5) 0 (min nl 64)) ≡ door_best s np nl na
  best_capped =
      let loads-handed : ℕ = cond (ltb na 5) 0 (min nl 64) in
      elim (read_cases (read_sheet s)) [
        | inl (f, e) ↦ best_refused s (min np 512) loads-handed f e ∙ sym (door_refused f e)
        | inr (c, e) ↦
            best_read s (min np 512) loads-handed c e ∙ ap (best_on c) (capped 5 s c e np nl na) ∙ sym (door_read c e)
      ]

-- ── the target found ──

abbrev pub found_day : Contents → Day
found_day c = with_target (day_of c) (best_target (day_of c))

abbrev pub found_plan : Contents → PlanAnswer
found_plan c = plan_in (answer_to (found_day c)).answer

abbrev pub found : Contents → BestPlan
found c = record { target = best_target (day_of c); plan = found_plan c; runs = targets_run (day_of c) }

module _ (c : Contents) (sound : SoundSheet c) where
  pub best_plan : SoundPlan (found_day c) (found_plan c) (answer_to (found_day c)).places (answer_to (found_day c)).loads
  best_plan = best_sound (day_of c) (accepted_at c sound)

  pub best_vouched : Vouched (day_of c) (found c)
  best_vouched = vouched (day_of c) (accepted_at c sound) (start_fits c sound)

module _ (s : List ℕ) (np nl na : ℕ) where
  pub places_few : (length (door_best s np nl na).places ≤ np) × (length (door_best s np nl na).places ≤ 512)
  places_few = elim (fault_or_room s np nl na) [
    | inl f ↦ rw f.replies (omega arith, omega arith)
    | inr r ↦
        let right = (best_plan r.room.contents r.room.sound_sheet).one_to_a_job in
        rw r.replies (
          omega (arith, right, r.room.jobs_fit),
          omega (arith, right, r.room.sound_sheet.at_most_512_jobs),
        )
  ]

  pub loads_few : (length (door_best s np nl na).loads ≤ nl) × (length (door_best s np nl na).loads ≤ 64)
  loads_few = elim (fault_or_room s np nl na) [
    | inl f ↦ rw f.replies (omega arith, omega arith)
    | inr r ↦
        let right = (best_plan r.room.contents r.room.sound_sheet).one_to_a_bench in
        rw r.replies (
          omega (arith, right, r.room.benches_fit),
          omega (arith, right, r.room.sound_sheet.head.at_most_64_benches),
        )
  ]

-- ── the numbers of a reply ──

pub record BestFits (a : BestReply) : Type 0 where
  pub places_fit : Fit a.places
  pub loads_fit : Fit a.loads
  pub numbers_fit : Fit (best_numbers a.answer)

-- A plan's three numbers, behind one and before another.
between_fit : {a b m v e : ℕ} → a < 2 ^ 64 → Fit (b ∷ m ∷ v ∷ []) → e < 2 ^ 64 → Fit (a ∷ b ∷ m ∷ v ∷ e ∷ [])
between_fit p three q zero l = p
between_fit p three q (suc zero) l = three 0 (omega arith)
between_fit p three q (suc (suc zero)) l = three 1 (omega arith)
between_fit p three q (suc (suc (suc zero))) l = three 2 (omega arith)
between_fit p three q (suc (suc (suc (suc zero)))) l = q
between_fit p three q (suc (suc (suc (suc (suc i))))) l = absurd (omega arith)

pub best_fits : (c : Contents) → SoundSheet c → BestFits (best_to (day_of c))
best_fits c sound =
    let plan = plan_fits c sound (best_target (day_of c)) (found_plan c) _ _ (best_plan c sound) in
    let right = best_vouched c sound in
    record {
      places_fit = plan.places_fit;
      loads_fit = plan.loads_fit;
      numbers_fit =
          between_fit (omega (arith, right.target_fits)) plan.numbers_fit (omega (arith, right.few_runs));
    }
