-- What planning and the search for the best target reply to the bytes of a sheet, with tables of any lengths.
--     Replies s np nl     both refuse the sheet, by one fault whose place is in it; or both reply to the day of its
--                         contents, which are sound
--     replies             one of the two holds of every sheet
use Prim.Native.Nat.{ℕ, ◌≤◌}
use native.Mathlib.Omega.{arith}
use mathlib.Core.Path.{◌≡◌, refl}
use mathlib.Core.Logic.{inl, inr}
use mathlib.Core.List.{List}
use Rattle.bools.proofs.BoolLaws.{split}
use Rattle.fields.specs.Numbers.{place_of}
use Rattle.fields.specs.declared.fault.Fault.{Fault}
use Rattle.fields.specs.declared.fault.Fault.TheVariants.{Table}
use Rattle.fields.specs.Contents.{Contents}
use Rattle.frame.specs.Reading.{Read, accepted, refused, read_sheet}
use Rattle.frame.specs.Sound.{SoundSheet}
use Rattle.frame.proofs.AcceptedLaws.{accepted_sound}
use Rattle.frame.proofs.Places.{read_place}
use Rattle.day.specs.Day.{day_of}
use Rattle.answers.specs.Answers.{fault_reply}
use Rattle.answers.specs.BestAnswers.{best_fault}
use Rattle.algorithm.specs.Answer.{answer_to, short_tables, answer_for}
use Rattle.algorithm.specs.Best.{best_to, best_for}

pub data Replies (s : List ℕ) (np nl : ℕ) : Type 0 where
  same_fault : (f : Fault) → place_of f ≤ 65536 → answer_for s np nl ≡ fault_reply f → best_for s np nl ≡ best_fault f
      → Replies s np nl
  to_day : (c : Contents) → SoundSheet c → answer_for s np nl ≡ answer_to (day_of c) → best_for s np nl ≡ best_to (day_of c)
      → Replies s np nl

replies_to : (s : List ℕ) (np nl : ℕ) (r : Read) → read_sheet s ≡ r → Replies s np nl
unfolding answer_for best_for
replies_to s np nl (refused f) e = same_fault f (read_place s f e) (rw (e, answer_for)) (rw (e, best_for))
replies_to s np nl (accepted c) e = elim (split (short_tables c np nl)) [
  | inl t ↦ same_fault (Table 0) (omega arith) (rw (e, t, answer_for)) (rw (e, t, best_for))
  | inr t ↦ to_day c (accepted_sound s c e) (rw (e, t, answer_for)) (rw (e, t, best_for))
]

pub replies : (s : List ℕ) (np nl : ℕ) → Replies s np nl
replies s np nl = replies_to s np nl (read_sheet s) refl
