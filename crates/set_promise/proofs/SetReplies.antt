-- The answer at the door to who has a set checked, by what the sheet is read as and by the room for the answer.
--     door_refused, door_short, door_read     a refused sheet; an accepted one without room; one with room
--     door_faulty, door_checked               the answer without room, and with it
use Prim.Native.Nat.{ℕ, ◌≤◌, ◌<◌}
use mathlib.Core.Path.{◌≡◌, sym, ap, ◌∙◌}
use mathlib.Core.Logic.{inl, inr}
use mathlib.Core.List.{List}
use borrow.Author.Tests.{lt-ltb, le-ltb}
use Rattle.fields.specs.declared.fault.Fault.{Fault}
use Rattle.fields.specs.declared.fault.Fault.TheVariants.{Table}
use Rattle.fields.specs.Contents.{Contents}
use Rattle.frame.specs.Reading.{Read, accepted, refused, read_sheet}
use Rattle.frame.proofs.Stored.{read_cases}
use Rattle.day.specs.Day.{day_of}
use Rattle.answers.specs.declared.check.SetAnswer.TheVariants.{Fault as Faulty}
use Rattle.set_check.specs.SetCheck.{set_answer, check_set}
use Rattle.set_check.proofs.SetLaws.{refused_fault, answer_is}
use Rattle.list_promise.specs.ListDoor.{short_fault}
use Rattle.set_promise.specs.SetDoor.{door_set}

-- ── by the sheet and the room ──

module _ (s : List ℕ) (set na : ℕ) where
  pub door_refused : (f : Fault) → read_sheet s ≡ refused f → door_set s set na ≡ Faulty f
  unfolding door_set
  door_refused f e = rw (e, door_set)

  module _ (c : Contents) (e : read_sheet s ≡ accepted c) where
    pub door_short : na < 1 → door_set s set na ≡ Faulty (Table 0)
    unfolding door_set
    door_short few = rw (e, door_set, lt-ltb na 1 few)

    pub door_read : 1 ≤ na → door_set s set na ≡ set_answer (day_of c) set
    unfolding door_set
    door_read room = rw (e, door_set, le-ltb na 1 room)

  -- ── without room, and with it ──

  pub door_faulty : na < 1 → door_set s set na ≡ Faulty (short_fault (read_sheet s))
  unfolding short_fault
  door_faulty few = elim (read_cases (read_sheet s)) [
    | inl (f, e) ↦ door_refused f e ∙ sym (ap (λ (r : Read). Faulty (short_fault r)) e)
    | inr (c, e) ↦ door_short c e few ∙ sym (ap (λ (r : Read). Faulty (short_fault r)) e)
  ]

  pub door_checked : 1 ≤ na → door_set s set na ≡ check_set s set
  door_checked room = elim (read_cases (read_sheet s)) [
    | inl (f, e) ↦ door_refused f e ∙ sym (refused_fault s set f e)
    | inr (c, e) ↦ door_read c e room ∙ sym (answer_is s set c e)
  ]
