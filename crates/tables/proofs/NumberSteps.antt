-- Numbers put to the front of a table, one behind the other. A law's premises are what the calls before it ensure.
--     length-put_numbers    a table with room for the numbers keeps its length
--     put_nothing           no number changes nothing
--     put_more              a number put behind those that stand there
-- The same for as many numbers as there is room for:
--     fitting_all           all of them, where there is room for all
--     fitting_nothing, fitting_more    no number; and one more
use Prim.Native.Nat.{ℕ, ◌+◌, ◌*◌, ◌≤◌}
use native.Mathlib.Omega.{arith}
use mathlib.Core.Path.{◌≡◌, refl, sym, ap, ◌∙◌}
use mathlib.Core.Logic.{inl, inr}
use mathlib.Core.List.{List, [], ◌∷◌, ◌++◌}
use lib.ListN.{length, take, drop, length-append, length-take, length-drop}
use lib.Seq.{take_all, take-append-le, drop-drop, take_at, drop_at}
use Rattle.bools.proofs.OrderLaws.{lt-or-le}
use Rattle.bits.specs.Little.{little_all}
use Rattle.bits.proofs.LittleLaws.{length-little_all, little_all-append, little_all-one}
use Rattle.tables.specs.Tables.{put_entry, room_of, put_numbers, put_fitting}
use Rattle.tables.proofs.TableSteps.{put_none, put_some}

pub length-put_numbers : (ns t : List ℕ) → 8 * length ns ≤ length t → length (put_numbers ns t) ≡ length t
unfolding put_numbers
length-put_numbers ns t h =
    length-append (little_all 8 ns) (drop (8 * length ns) t)
    ∙ omega (arith, length-little_all 8 ns, length-drop (8 * length ns) t)

pub put_nothing : (t : List ℕ) → put_numbers [] t ≡ t
unfolding put_numbers little_all
put_nothing t = refl

pub put_more : (ns t : List ℕ) (v : ℕ) → 8 * length ns + 8 ≤ length t
    → put_entry (put_numbers ns t) (length ns) v ≡ put_numbers (ns ++ v ∷ []) t
unfolding put_numbers
put_more ns t v h =
    let at : ℕ = 8 * length ns in
    let before : length (little_all 8 ns) ≡ at = omega (arith, length-little_all 8 ns) in
    let rest : drop (at + 8) (little_all 8 ns ++ drop at t) ≡ drop (at + 8) t =
    sym (drop-drop 8 at (little_all 8 ns ++ drop at t))
    ∙ ap (drop 8) (drop_at (little_all 8 ns) (drop at t) at before)
    ∙ drop-drop 8 at t in
    let end : 8 * length (ns ++ v ∷ []) ≡ at + 8 = omega (arith, length-append ns (v ∷ [])) in
    put_some (put_numbers ns t) (length ns) v (omega (arith, length-put_numbers ns t (omega arith)))
    ∙ rw (take_at (little_all 8 ns) (drop at t) at before, rest, end, little_all-append 8 ns (v ∷ []), little_all-one 8 v)

-- ── as many as there is room for ──

pub fitting_all : (ns t : List ℕ) → 8 * length ns ≤ length t → put_fitting ns t ≡ put_numbers ns t
unfolding put_fitting
fitting_all ns t h = ap (λ (xs : List ℕ). put_numbers xs t) (take_all (room_of t) ns (omega arith))

pub fitting_nothing : (t : List ℕ) → put_fitting [] t ≡ t
fitting_nothing t = fitting_all [] t (omega arith) ∙ put_nothing t

length-put_fitting : (ns t : List ℕ) → length (put_fitting ns t) ≡ length t
unfolding put_fitting
length-put_fitting ns t = length-put_numbers (take (room_of t) ns) t (omega (arith, length-take (room_of t) ns))

pub fitting_more : (ns t : List ℕ) (v : ℕ) → put_entry (put_fitting ns t) (length ns) v ≡ put_fitting (ns ++ v ∷ []) t
unfolding put_fitting
fitting_more ns t v = elim (lt-or-le (length ns) (room_of t)) [
  | inl l ↦
      ap (λ (xs : List ℕ). put_entry xs (length ns) v) (fitting_all ns t (omega arith))
      ∙ put_more ns t v (omega arith)
      ∙ sym (fitting_all (ns ++ v ∷ []) t (omega (arith, length-append ns (v ∷ []))))
  | inr h ↦
      sym (put_none (put_fitting ns t) (length ns) v (omega (arith, length-put_fitting ns t)))
      ∙ ap (λ (xs : List ℕ). put_numbers xs t) (sym (take-append-le (room_of t) ns (v ∷ []) h))
]
