-- An array of which a call gets the front, and leaves numbers at the front of it.
--     front_length        the length of an array's front
--     front-taken         the numbers that the call left, taken out of the array again
--     left_put            they are put to a table that has room for them: they stand at its front
use Prim.Native.Nat.{ℕ, ◌*◌, ◌≤◌}
use mathlib.Core.Path.{◌≡◌, sym, ap, ◌∙◌}
use mathlib.Core.List.{List, ◌++◌, append_assoc}
use lib.ListN.{length, take}
use lib.Seq.{length-take-le, take_at}
use Rattle.tables.specs.Tables.{put_numbers, put_fitting}
use Rattle.tables.proofs.FrontSteps.{front_put}

pub front_length : (n : ℕ) (xs : List ℕ) → n ≤ length xs → n ≡ length (take n xs)
front_length n xs h = sym (length-take-le n xs h)

-- What was lent behind the numbers, and what stands behind the part that was lent.
module _ (ns lent rest : List ℕ) {after : List ℕ} {k : ℕ} (e : after ≡ ns ++ lent) (count : k ≡ length ns) where
  front-taken : take k (after ++ rest) ≡ ns
  front-taken =
      ap (λ (xs : List ℕ). take k (xs ++ rest)) e
      ∙ ap (take k) (append_assoc ns lent rest)
      ∙ take_at ns (lent ++ rest) k (sym count)

  pub left_put : (t : List ℕ) {t' : List ℕ} → 8 * length ns ≤ length t
      → t' ≡ put_fitting (take k (after ++ rest)) t → t' ≡ put_numbers ns t
  left_put t room put = front_put ns t room front-taken put
