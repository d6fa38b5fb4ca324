-- The arrays of the sheet that the reader hands over.
--     tables_of      they hold the contents of an accepted sheet
use Prim.Native.Nat.{ℕ}
use mathlib.Core.Path.{◌≡◌, ap, ◌∙◌}
use mathlib.Core.List.{List}
use lib.ListN.{get_or}
use Rattle.fields.specs.Contents.{Contents}
use Rattle.fields.specs.declared.sheet.Sheet.{Sheet}
use Rattle.frame.specs.Reading.{accepted, read_sheet, sheet_of}
use Rattle.frame.specs.Tables.{Tables}
use Rattle.frame.proofs.AcceptedLaws.{accepted_sound}
use Rattle.frame.proofs.SheetArrays.{get_or-padded}

pub tables_of : (s : List ℕ) (c : Contents) (x : Sheet) → read_sheet s ≡ accepted c → x ≡ sheet_of c
    → Tables c x.head.benches x.booked x.count x.minutes x.allowed
tables_of s c x e same =
    record {
      sound = accepted_sound s c e;
      benches_are = ap (λ (y : Sheet). y.head.benches) same;
      booked_are = λ b. ap (λ (y : Sheet). get_or y.booked b 0) same;
      jobs_are = ap (λ (y : Sheet). y.count) same;
      minutes_are = λ j l.
          ap (λ (y : Sheet). get_or y.minutes j 0) same ∙ get_or-padded (λ k. k.minutes) c.jobs j 0 l;
      allowed_are = λ j l.
          ap (λ (y : Sheet). get_or y.allowed j 0) same ∙ get_or-padded (λ k. k.allowed) c.jobs j 0 l;
    }
