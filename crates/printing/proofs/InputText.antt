-- The text for an input whose front was read into a buffer of more than 65,536 bytes.
--     part_text, full_text    it is the text for the first n bytes of the buffer, or for the whole of it, if n is not
--                             below its length
--     text_within             it lies within the buffer that it is put into
use Prim.Native.Nat.{ℕ, ◌≤◌, ◌<◌}
use native.Mathlib.Omega.{arith}
use mathlib.Core.Path.{◌≡◌, sym, ap}
use mathlib.Core.List.{List}
use lib.ListN.{length, take, length-take}
use lib.Seq.{take_all}
use Rattle.frame.specs.Reading.{read_sheet}
use Rattle.frame.proofs.ReadPrefix.{buffer_read, full_buffer_read}
use Rattle.lines.specs.Buffer.{Whole}
use Rattle.lines.proofs.BufferLaws.{whole_as}

module _ (text : List ℕ → List ℕ) {out after : List ℕ} {r : ℕ} where
  -- The text comes from what is read of a sheet, and the buffer has as many bytes of s as it has room for, or all.
  module _ (by-reading : (s s' : List ℕ) → read_sheet s ≡ read_sheet s' → text s ≡ text s') (buffer s : List ℕ) (n : ℕ)
      (room : 65536 < length buffer) (held : take n buffer ≡ take (length buffer) s) where
    pub part_text : Whole (text (take n buffer)) out after r → Whole (text s) out after r
    part_text = whole_as (by-reading (take n buffer) s (buffer_read buffer s n room held))

    pub full_text : length buffer ≤ n → Whole (text buffer) out after r → Whole (text s) out after r
    full_text l = whole_as (by-reading buffer s (full_buffer_read buffer s n room held l))

  -- The input can be the bytes that were read.
  pub text_within : (buffer : List ℕ) (n : ℕ)
      → ((s : List ℕ) → take n buffer ≡ take (length buffer) s → Whole (text s) out after r) → r ≤ length after
  text_within buffer n whole =
      let all = take_all (length buffer) (take n buffer) (omega (arith, length-take n buffer)) in
      let w = whole (take n buffer) (sym all) in
      omega (arith, w.end, ap length w.bytes, length-take r after)
