-- What is read of the front of a sheet: 65,537 bytes show fault 1, and fewer are all there is.
--     read_front          the front of a sheet, of more than 65,536 bytes or all of them, is read as the whole
--     buffer_read         so are the first n bytes of a buffer that holds the front of a sheet
--     full_buffer_read    and the whole buffer, where n is not below its length
use Prim.Native.Nat.{ℕ, ◌≤◌, ◌<◌}
use native.Mathlib.Omega.{arith}
use mathlib.Core.Path.{◌≡◌, sym, ap, ◌∙◌}
use mathlib.Core.Logic.{inl, inr}
use mathlib.Core.List.{List}
use lib.ListN.{length, take, length-take}
use lib.Seq.{take_all}
use Rattle.bools.proofs.OrderLaws.{lt-or-le}
use Rattle.frame.specs.Reading.{read_sheet}
use Rattle.frame.proofs.FirstFault.{read_too_long}

pub read_front : (room : ℕ) (s : List ℕ) → 65536 < room → read_sheet (take room s) ≡ read_sheet s
read_front room s h = elim (lt-or-le 65536 (length s)) [
  | inl l ↦ read_too_long (take room s) (omega (arith, length-take room s)) ∙ sym (read_too_long s l)
  | inr l ↦ ap read_sheet (take_all room s (omega arith))
]

-- The buffer holds the first n bytes of s: as many as it has room for, or all of them.
module _ (buffer s : List ℕ) (n : ℕ) (room : 65536 < length buffer) (held : take n buffer ≡ take (length buffer) s) where
  pub buffer_read : read_sheet (take n buffer) ≡ read_sheet s
  buffer_read = ap read_sheet held ∙ read_front (length buffer) s room

  pub full_buffer_read : length buffer ≤ n → read_sheet buffer ≡ read_sheet s
  full_buffer_read l = ap read_sheet (sym (take_all n buffer l)) ∙ buffer_read
