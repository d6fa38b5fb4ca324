-- What a caller reads in a table to whose front numbers were put.
--     Fit ns                every number of the list has at most 8 bytes
--     entry_put             an entry that was put, if its number has at most 8 bytes
--     later_kept            every byte after the numbers is as before
--     entry_after           an entry of a table without its first n entries
--     entry_front           an entry of the first n of a table
--     entries_front         these are n entries, where the table has so many
use Prim.Native.Nat.{ℕ, zero, suc, ◌+◌, ◌*◌, ◌^◌, ◌≤◌, ◌<◌}
use native.Mathlib.Omega.{arith}
use mathlib.Core.Path.{◌≡◌, sym, ap, ◌∙◌}
use mathlib.Core.List.{List, [], ◌∷◌, ◌++◌, append_assoc}
use lib.ListN.{length, get_or, take, drop}
use lib.Seq.{drop-drop, drop_at, get_or-take, get_or-drop, length-take-le}
use Rattle.bits.specs.Little.{little, little_of, little_all}
use Rattle.bits.proofs.LittleLaws.{length-little_of, length-little_all, little_cong, little-append_left}
use Rattle.bits.proofs.LittleLaws.{little-little_of-exact}
use Rattle.tables.specs.Tables.{entries_of, entry_of, put_numbers}

abbrev pub Fit : List ℕ → Type 0
Fit ns = (i : ℕ) → i < length ns → get_or ns i 0 < 2 ^ 64

number_at : (ns rest : List ℕ) (i : ℕ) → Fit ns → i < length ns → little (drop (8 * i) (little_all 8 ns ++ rest)) 8 ≡ get_or ns i 0
unfolding little_all
number_at [] rest i fit l = absurd (omega arith)
number_at (n ∷ ns) rest zero fit l =
    ap (λ (xs : List ℕ). little xs 8) (append_assoc (little_of 8 n) (little_all 8 ns) rest)
    ∙ little-append_left (little_of 8 n) (little_all 8 ns ++ rest) 8 (omega (arith, length-little_of 8 n))
    ∙ little-little_of-exact 8 n (fit 0 (omega arith))
number_at (n ∷ ns) rest (suc i) fit l =
    let here : 8 * suc i ≡ 8 + 8 * i = omega arith in
    ap (λ (k : ℕ). little (drop k (little_all 8 (n ∷ ns) ++ rest)) 8) here
    ∙ ap (λ (xs : List ℕ). little xs 8)
    (sym (drop-drop (8 * i) 8 (little_all 8 (n ∷ ns) ++ rest))
    ∙ ap (λ (xs : List ℕ). drop (8 * i) (drop 8 xs)) (append_assoc (little_of 8 n) (little_all 8 ns) rest)
    ∙ ap (drop (8 * i)) (drop_at (little_of 8 n) (little_all 8 ns ++ rest) 8 (length-little_of 8 n)))
    ∙ number_at ns rest i (λ k h. fit (suc k) (omega arith)) (omega arith)

pub entry_put : (ns t : List ℕ) (i : ℕ) → Fit ns → i < length ns → entry_of (put_numbers ns t) i ≡ get_or ns i 0
unfolding entry_of put_numbers
entry_put ns t i fit l = number_at ns (drop (8 * length ns) t) i fit l

pub later_kept : (ns t : List ℕ) (n : ℕ) → length ns ≡ n → drop (8 * n) (put_numbers ns t) ≡ drop (8 * n) t
unfolding put_numbers
later_kept ns t n e =
    drop_at (little_all 8 ns) (drop (8 * length ns) t) (8 * n) (omega (arith, length-little_all 8 ns, e)) ∙ ap (λ (k : ℕ). drop (8 * k) t) e

pub entry_after : (n i : ℕ) (t : List ℕ) → entry_of (drop (8 * n) t) i ≡ entry_of t (n + i)
unfolding entry_of
entry_after n i t =
    let here : 8 * n + 8 * i ≡ 8 * (n + i) = omega arith in
    ap (λ (xs : List ℕ). little xs 8) (drop-drop (8 * i) (8 * n) t ∙ ap (λ (k : ℕ). drop k t) here)

-- ── the front of a table ──

pub entry_front : (n i : ℕ) (t : List ℕ) → i < n → entry_of (take (8 * n) t) i ≡ entry_of t i
unfolding entry_of
entry_front n i t l =
    little_cong (drop (8 * i) (take (8 * n) t)) (drop (8 * i) t) 8
    (λ k h.
    get_or-drop (8 * i) (take (8 * n) t) k 0
    ∙ get_or-take (8 * n) t (8 * i + k) 0 (omega arith)
    ∙ sym (get_or-drop (8 * i) t k 0))

pub entries_front : (n : ℕ) (t : List ℕ) → 8 * n ≤ length t → entries_of (take (8 * n) t) ≡ n
unfolding entries_of
entries_front n t h = omega (arith, length-take-le (8 * n) t h)
