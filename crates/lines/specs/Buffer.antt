-- Bytes put into a buffer; those that do not fit are cut off.
--     Puts out at xs after r      `after` is the buffer `out` with xs put from place at on, and r is where they end, or
--                                 the buffer's end
--     Front out xs after r        the same at the front of the buffer, said without stores
--     Whole xs out after r        all of xs is put at the front, of r bytes, and what stands behind it is kept
use Rattle.std.specs.Prelude.{ℕ, ◌+◌, min, ◌≡◌, List, ◌++◌, length, take, drop}
use Rattle.std.proofs.lemmas.List.Edits.{sets}

pub record Puts (out : List ℕ) (at : ℕ) (xs after : List ℕ) (r : ℕ) : Type 0 where
  pub bytes : after ≡ sets out at xs
  pub end : r ≡ min (length out) (at + length xs)

pub record Front (out xs after : List ℕ) (r : ℕ) : Type 0 where
  pub bytes : after ≡ take (length out) (xs ++ drop (length xs) out)
  pub end : r ≡ min (length out) (length xs)

pub record Whole (xs out after : List ℕ) (r : ℕ) : Type 0 where
  pub end : r ≡ length xs
  pub bytes : take r after ≡ xs
  pub behind : drop r after ≡ drop r out
