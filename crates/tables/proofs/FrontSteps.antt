-- The loop that puts the numbers of an array to the front of a table.
--     FrontPut from t₀ t i       t is t₀ with the first i numbers at its front, as many as it has room for
--     front_starts, front_more   before the first turn; after a turn
--     front_over                 at the end of the array all of them are put
--     front_put                  numbers for which there is room: they stand at the front
use Prim.Native.Nat.{ℕ, ◌+◌, ◌*◌, ◌≤◌, ◌<◌}
use native.Mathlib.Numerals.{add-one}
use native.Mathlib.Omega.{arith}
use mathlib.Core.Path.{◌≡◌, sym, ap, ap₂, ◌∙◌}
use mathlib.Core.List.{List, [], ◌∷◌, ◌++◌}
use lib.ListN.{length, get_or, take}
use lib.Seq.{length-take-le, take_all, take-suc}
use Rattle.tables.specs.Tables.{put_entry, put_numbers, put_fitting}
use Rattle.tables.proofs.NumberSteps.{fitting_all, fitting_nothing, fitting_more}

abbrev pub FrontPut : List ℕ → List ℕ → List ℕ → ℕ → Type 0
FrontPut from t₀ t i = t ≡ put_fitting (take i from) t₀

pub front_starts : (from t : List ℕ) → FrontPut from t t 0
front_starts from t = sym (fitting_nothing t)

module _ (from t₀ t : List ℕ) (i : ℕ) (kept : FrontPut from t₀ t i) where
  pub front_more : {x : ℕ} {t' : List ℕ} → i < length from → x ≡ get_or from i 0 → t' ≡ put_entry t i x
      → FrontPut from t₀ t' (i + 1)
  front_more {x} l e put =
      let longer : take i from ++ x ∷ [] ≡ take (i + 1) from = rw (e, add-one i) (sym (take-suc from i 0 l)) in
      let count : length (take i from) ≡ i = length-take-le i from (omega arith) in
      put
      ∙ ap₂ (λ (xs : List ℕ) (k : ℕ). put_entry xs k x) kept (sym count)
      ∙ fitting_more (take i from) t₀ x
      ∙ ap (λ (xs : List ℕ). put_fitting xs t₀) longer

  pub front_over : length from ≤ i → t ≡ put_fitting from t₀
  front_over h = kept ∙ ap (λ (xs : List ℕ). put_fitting xs t₀) (take_all i from h)

pub front_put : (ns t : List ℕ) {from t' : List ℕ} → 8 * length ns ≤ length t → from ≡ ns → t' ≡ put_fitting from t
    → t' ≡ put_numbers ns t
front_put ns t room e put = put ∙ ap (λ (xs : List ℕ). put_fitting xs t) e ∙ fitting_all ns t room
