-- The answer at the door to who has a list checked, by what the sheet is read as and by the room for the answer.
--     door_refused, door_short, door_read     a refused sheet; an accepted one without room; one with room
--     short_refused, short_accepted           the fault without room, by the verdict on the sheet
--     door_faulty, door_checked               the answer without room, and with it
--     list_enough                             the first 513 entries of a list are enough
use Prim.Native.Nat.{ℕ, ◌≤◌, ◌<◌}
use mathlib.Core.Path.{◌≡◌, sym, ap, ◌∙◌}
use mathlib.Core.Logic.{inl, inr}
use mathlib.Core.Bool.{Bool, cond}
use mathlib.Core.List.{List}
use native.Mathlib.Omega.{arith}
use lib.ListN.{take}
use borrow.Author.Tests.{lt-ltb, le-ltb}
use Rattle.fields.specs.declared.fault.Fault.{Fault}
use Rattle.fields.specs.declared.fault.Fault.TheVariants.{Table}
use Rattle.std.specs.Prelude.{Result, Ok, Err}
use Rattle.fields.specs.declared.sheet.Sheet.{Sheet}
use Rattle.fields.specs.Contents.{Contents}
use Rattle.frame.specs.Reading.{Read, accepted, refused, read_sheet, stored}
use Rattle.frame.proofs.AcceptedLaws.{accepted_sound}
use Rattle.frame.proofs.Stored.{read_cases, verdict_refused, verdict_accepted}
use Rattle.day.specs.Day.{Day, day_of}
use Rattle.answers.specs.declared.check.ListAnswer.{ListAnswer}
use Rattle.answers.specs.declared.check.ListAnswer.TheVariants.{Fault as Faulty}
use Rattle.lists.proofs.ListLaws.{front_enough}
use Rattle.list_check.specs.ListCheck.{listed_of, check_list}
use Rattle.list_check.proofs.ListLaws.{check_refused, check_accepted, listed_other}
use Rattle.list_promise.specs.ListDoor.{door_list, short_fault}

-- ── by the sheet and the room ──

module _ (s list : List ℕ) (na : ℕ) where
  pub door_refused : (f : Fault) → read_sheet s ≡ refused f → door_list s list na ≡ Faulty f
  unfolding door_list
  door_refused f e = rw (e, door_list)

  module _ (c : Contents) (e : read_sheet s ≡ accepted c) where
    abbrev by : Bool → ListAnswer
    by short = cond short (Faulty (Table 0)) (listed_of (day_of c) list)

    pub door_short : na < 2 → door_list s list na ≡ Faulty (Table 0)
    unfolding door_list
    door_short few = rw (e, door_list) (ap by (lt-ltb na 2 few))

    pub door_read : 2 ≤ na → door_list s list na ≡ listed_of (day_of c) list
    unfolding door_list
    door_read room = rw (e, door_list) (ap by (le-ltb na 2 room))

  -- ── without room, and with it ──

  pub door_faulty : na < 2 → door_list s list na ≡ Faulty (short_fault (read_sheet s))
  unfolding short_fault
  door_faulty few = elim (read_cases (read_sheet s)) [
    | inl (f, e) ↦ door_refused f e ∙ sym (ap (λ (r : Read). Faulty (short_fault r)) e)
    | inr (c, e) ↦ door_short c e few ∙ sym (ap (λ (r : Read). Faulty (short_fault r)) e)
  ]

  pub door_checked : 2 ≤ na → door_list s list na ≡ check_list s list
  door_checked room = elim (read_cases (read_sheet s)) [
    | inl (f, e) ↦ door_refused f e ∙ sym (check_refused s list f e)
    | inr (c, e) ↦ door_read c e room ∙ sym (check_accepted s list c e)
  ]

module _ (s : List ℕ) {x : Result Sheet Fault} (e : x ≡ stored (read_sheet s)) where
  pub short_refused : {f : Fault} → x ≡ Err f → f ≡ short_fault (read_sheet s)
  unfolding short_fault
  short_refused a = sym (ap short_fault (verdict_refused (read_sheet s) e a))

  pub short_accepted : {sheet : Sheet} → x ≡ Ok sheet → Table 0 ≡ short_fault (read_sheet s)
  unfolding short_fault
  short_accepted a = let (c, read, same) = verdict_accepted (read_sheet s) e a in sym (ap short_fault read)

-- ── the first 513 entries ──

listed_enough : (d : Day) → d.jobs ≤ 512 → (list : List ℕ) → listed_of d (take 513 list) ≡ listed_of d list
listed_enough d few list = elim (front_enough 513 d.jobs (omega arith) list) [
  | inl all ↦ ap (listed_of d) all
  | inr (a, b) ↦ listed_other d (take 513 list) a ∙ sym (listed_other d list b)
]

pub list_enough : (s list : List ℕ) → check_list s (take 513 list) ≡ check_list s list
list_enough s list = elim (read_cases (read_sheet s)) [
  | inl (f, e) ↦ check_refused s (take 513 list) f e ∙ sym (check_refused s list f e)
  | inr (c, e) ↦
      check_accepted s (take 513 list) c e
      ∙ listed_enough (day_of c) (accepted_sound s c e).at_most_512_jobs list
      ∙ sym (check_accepted s list c e)
]
