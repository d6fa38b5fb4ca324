-- What the reader's result says of the sheet.
--     read_cases          a sheet is read or refused
--     not_both_read       and not both
--     same_read           it is accepted with one contents only
--     fault_stored        the result where the sheet is refused
--     verdict_refused     refused: the sheet is refused for that fault
--     verdict_accepted    accepted: the sheet has contents, and they are what it holds
use Prim.Native.Nat.{ℕ}
use mathlib.Core.Path.{◌≡◌, refl}
use mathlib.Core.Logic.{◌⊎◌, inl, inr}
use native.Mathlib.Omega.{arith}
use Rattle.fields.specs.Contents.{Contents}
use Rattle.fields.specs.declared.sheet.Sheet.{Sheet}
use Rattle.fields.specs.declared.fault.Fault.{Fault}
use Rattle.std.specs.Prelude.{Result, Ok, Err}
use Rattle.frame.specs.Reading.{Read, accepted, refused, stored, sheet_of}

pub read_cases : (r : Read) → ((f : Fault) × (r ≡ refused f)) ⊎ ((c : Contents) × (r ≡ accepted c))
read_cases (refused f) = inl (f, refl)
read_cases (accepted c) = inr (c, refl)

pub not_both_read : {r : Read} {f : Fault} {c : Contents} → r ≡ refused f → r ≡ accepted c → ⊥
not_both_read p q = let z : ◌≡◌ {A = ℕ} 0 1 = cc in omega arith

pub same_read : {r : Read} {c e : Contents} → r ≡ accepted c → r ≡ accepted e → c ≡ e
same_read p q = cc

pub fault_stored : {r : Read} {f : Fault} → r ≡ refused f → Err f ≡ stored r
unfolding stored
fault_stored e = rw e

pub verdict_refused : (r : Read) {x : Result Sheet Fault} {f : Fault} → x ≡ stored r → x ≡ Err f → r ≡ refused f
unfolding stored
verdict_refused (accepted c) e a = absurd cc
verdict_refused (refused g) e a = cc

pub verdict_accepted : (r : Read) {x : Result Sheet Fault} {sheet : Sheet} → x ≡ stored r → x ≡ Ok sheet
    → (c : Contents) × (r ≡ accepted c) × (sheet ≡ sheet_of c)
unfolding stored
verdict_accepted (accepted c) e a = (c, refl, cc)
verdict_accepted (refused f) e a = absurd cc
