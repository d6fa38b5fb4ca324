-- What each step of the table functions does. A law's premises are what the code has tested, and what the calls before it ensure.
--     little_front, little_short      the library's number of eight bytes is the definition's, also where some are missing
--     entry_over              an entry that the table has not begun is 0
--     entry_here              an entry is the number of the bytes from its first on
--     length-numbers_of       a table has as many numbers as entries
--     entry_at                number i is entry i
--     load_more               a turn of the loop that loads a table stores its next entry
--     load_all                in the end all of its entries stand there, or as many as there is room for
--     length-given_numbers    so many numbers too, where a 0 that lacks bytes is not given
--     given_kept, given_marked    of those that are loaded none is such a 0; the last one is, and is marked
--     loaded_entry            a number of the array after the load is the table's entry
--     empty, room             an array of 513 numbers before a load
--     loaded_front            into an array of k numbers the first k entries are loaded
--     loaded-length, loaded_fits    they have the length that the load returns, and stand inside the array
--     given_front, given-length     the same where a 0 that lacks bytes is not given
--     bytes_little            the library's bytes of a number are the eight of the definition
--     put_none, put_some      a table without room for an entry, and one with room
use Prim.Native.Nat.{ℕ, suc, ◌+◌, ◌-◌, ◌*◌, ◌/◌, ◌≤◌, ◌<◌, min}
use native.Mathlib.Numerals.{add-one}
use native.Mathlib.Nat.{div-div-eq-div-mul}
use Rattle.std.specs.Int.{w64, to_le_bytes, from_le_bytes}
use native.Mathlib.Omega.{arith}
use mathlib.Core.Path.{◌≡◌, sym, ap, subst, ◌∙◌}
use mathlib.Core.Logic.{inl, inr}
use mathlib.Core.Bool.{cond}
use mathlib.Core.List.{List, [], ◌++◌}
use lib.ListN.{length, get_or, take, drop, set, replicate, length-take, length-drop, length-replicate, drop_of_length-le}
use lib.ListN.{get_or-append, get_or-replicate, get_or-eq_default}
use lib.Seq.{get_or-take, get_or-drop, get_or-append_right, take_all, take_at, paste, paste-suc, set-append_left}
use borrow.Rule.Slice.PartMut.{put_mid}
use Rattle.std.proofs.lemmas.Slice.{put_mid-paste}
use lib.Dec.{eqb}
use Rattle.bools.proofs.BoolLaws.{and-false_right}
use Rattle.bools.proofs.OrderLaws.{lt-or-le, eq-or-ne}
use borrow.Author.Tests.{le-leb, lt-leb, le-ltb, lt-ltb, eq-eqb, ne_eqb}
use Rattle.sums.specs.Table.{table}
use Rattle.sums.proofs.TableLaws.{length-table, get_or-table, table_cong, take-table-min, set-table}
use Rattle.bits.specs.Little.{little, little_of}
use Rattle.bits.proofs.LittleLaws.{length-little_of, little-over}
use Rattle.tables.specs.Tables.{entries_of, entry_of, numbers_of, lacks_bytes, given_at, given_numbers, loaded_into}
use Rattle.tables.specs.Tables.{put_entry}

-- ── an entry ──

-- The library's number of eight bytes is the definition's.
little_whole : (s bytes : List ℕ) {n : ℕ} → ((k : ℕ) → k < 8 → get_or bytes k 0 ≡ get_or s k 0)
    → n ≡ from_le_bytes w64 bytes → n ≡ little s 8
unfolding little
little_whole s bytes same e =
    omega (
      arith,
      e,
      same 0 (omega arith),
      same 1 (omega arith),
      same 2 (omega arith),
      same 3 (omega arith),
      same 4 (omega arith),
      same 5 (omega arith),
      same 6 (omega arith),
      same 7 (omega arith),
    )

-- The first eight bytes of s.
pub little_front : (s bytes : List ℕ) {n : ℕ} → bytes ≡ take 8 s → n ≡ from_le_bytes w64 bytes → n ≡ little s 8
little_front s bytes front e =
    little_whole s bytes (λ k l. ap (λ (xs : List ℕ). get_or xs k 0) front ∙ get_or-take 8 s k 0 l) e

-- Fewer bytes than eight, over eight zeros.
pub little_short : (s front bytes : List ℕ) {n : ℕ} → length s < 8 → front ≡ s
    → bytes ≡ front ++ drop (length s) (replicate 8 0) → n ≡ from_le_bytes w64 bytes → n ≡ little s 8
little_short s front bytes short same e is = little_whole s bytes padded is
  where
    count : length front ≡ length s
    count = ap length same

    padded : (k : ℕ) → k < 8 → get_or bytes k 0 ≡ get_or s k 0
    padded k l = ap (λ (xs : List ℕ). get_or xs k 0) e ∙ elim (lt-or-le k (length s)) [
      | inl inside ↦
          get_or-append front (drop (length s) (replicate 8 0)) 0 k (omega (arith, count))
          ∙ ap (λ (xs : List ℕ). get_or xs k 0) same
      | inr past ↦
          get_or-append_right front (drop (length s) (replicate 8 0)) k 0 (omega (arith, count))
          ∙ get_or-drop (length s) (replicate 8 0) (k - length front) 0
          ∙ get_or-replicate 8 (length s + (k - length front)) 0 0 (omega (arith, count))
          ∙ sym (get_or-eq_default s 0 past)
    ]

pub entry_over : (t : List ℕ) (n : ℕ) → length t / 8 < n → 0 ≡ entry_of t n
unfolding entry_of
entry_over t n l = sym (little-over t (8 * n) 8 (omega arith))

pub entry_here : (t : List ℕ) (n : ℕ) {v : ℕ} → v ≡ little (take (length t - 8 * n) (drop (8 * n) t)) 8 → v ≡ entry_of t n
unfolding entry_of
entry_here t n e = e ∙ rw (take_all (length t - 8 * n) (drop (8 * n) t) (rw length-drop (omega arith)))

-- ── the entries of a table ──

pub length-numbers_of : (t : List ℕ) → length (numbers_of t) ≡ entries_of t
unfolding numbers_of
length-numbers_of t = length-table (entries_of t) (entry_of t)

pub entry_at : (t : List ℕ) (i : ℕ) → i < entries_of t → get_or (numbers_of t) i 0 ≡ entry_of t i
unfolding numbers_of
entry_at t i l = get_or-table (entries_of t) (entry_of t) i 0 l

pub load_more : (t into : List ℕ) (i : ℕ) {v : ℕ} → i < entries_of t → i < length into → v ≡ entry_of t i
    → set (paste into 0 (numbers_of t) i) i v ≡ paste into 0 (numbers_of t) (i + 1)
load_more t into i a l e =
    let start : 0 + i ≡ i = omega arith in
    rw (add-one i, e, ← entry_at t i a)
    (subst (λ (k : ℕ). set (paste into 0 (numbers_of t) i) k (get_or (numbers_of t) i 0) ≡ paste into 0 (numbers_of t) (suc i)) start
    (paste-suc into 0 (numbers_of t) i 0 (omega arith) (omega (arith, length-numbers_of t))))

-- Either all entries have been stored, or the array is full.
pub load_all : (t into : List ℕ) (n : ℕ) → n ≡ min (entries_of t) (length into)
    → paste into 0 (numbers_of t) n ≡ loaded_into (numbers_of t) into
unfolding loaded_into
load_all t into n e = elim (lt-or-le (length into) (entries_of t)) [
  | inl l ↦
      let full : n ≡ length into = omega arith in
      let end : 0 + n ≡ n = omega arith in
      let behind : drop (length into) into ≡ [] = drop_of_length-le into {i = length into} (omega arith) in
      let rest : drop (length (numbers_of t)) into ≡ [] =
      drop_of_length-le into {i = length (numbers_of t)} (omega (arith, length-numbers_of t)) in
      rw (end, full, behind, rest)
  | inr l ↦
      let all : n ≡ length (numbers_of t) = omega (arith, length-numbers_of t) in
      let end : 0 + n ≡ n = omega arith in
      rw (
        end,
        all,
        take_all (length (numbers_of t)) (numbers_of t) (omega arith),
        take_all (length into) (numbers_of t) (omega (arith, length-numbers_of t)),
      )
]

-- ── a last entry that lacks bytes ──

pub length-given_numbers : (t : List ℕ) (missing : ℕ) → length (given_numbers t missing) ≡ entries_of t
unfolding given_numbers
length-given_numbers t missing = length-table (entries_of t) (given_at t missing)

-- What is loaded of a table, entry by entry.
loaded-table : (f : ℕ → ℕ) (k : ℕ) (into : List ℕ)
    → loaded_into (table k f) into ≡ table (min (length into) k) f ++ drop k into
unfolding loaded_into
loaded-table f k into = rw (length-table k f, take-table-min (length into) k f)

module _ (t : List ℕ) (missing : ℕ) (into : List ℕ) where
  -- An entry before the last is whole.
  given_whole : (i : ℕ) → (length t / 8 ≡ i → entry_of t i ≡ 0 → ⊥) → i < entries_of t → given_at t missing i ≡ entry_of t i
  unfolding given_at entries_of
  given_whole i other l = elim (eq-or-ne (length t / 8) i) [
    | inl here ↦ rw (and-false_right (lacks_bytes t i) (ne_eqb (entry_of t i) 0 (other here)))
    | inr n ↦ rw (le-ltb (length t) (8 * i + 8) (omega arith))
  ]

  given_last : {i : ℕ} → i ≡ length t / 8 → entry_of t i ≡ 0 → given_at t missing i ≡ missing
  unfolding given_at
  given_last {i} e z = rw (lt-ltb (length t) (8 * i + 8) (omega arith), eq-eqb (entry_of t i) 0 z)

  module _ (n last : ℕ) (e : n ≡ min (entries_of t) (length into)) (is_last : last ≡ length t / 8) where
    -- Nothing is marked: no entry that was loaded lacks bytes, or the last one has a byte above 0.
    pub given_kept : (last < n → entry_of t last ≡ 0 → ⊥)
        → loaded_into (numbers_of t) into ≡ loaded_into (given_numbers t missing) into
    unfolding numbers_of given_numbers
    given_kept unmarked =
        loaded-table (entry_of t) (entries_of t) into
        ∙ ap (λ (xs : List ℕ). xs ++ drop (entries_of t) into)
        (table_cong (min (length into) (entries_of t)) (entry_of t) (given_at t missing)
        (λ i l. sym (given_whole i
        (λ here z. unmarked (omega (arith, e, is_last, here, l)) (ap (entry_of t) (is_last ∙ here) ∙ z)) (omega arith))))
        ∙ sym (loaded-table (given_at t missing) (entries_of t) into)

    pub given_marked : last < n → entry_of t last ≡ 0
        → set (loaded_into (numbers_of t) into) last missing ≡ loaded_into (given_numbers t missing) into
    unfolding numbers_of given_numbers
    given_marked l z =
        let k : ℕ = min (length into) (entries_of t) in
        let behind : List ℕ = drop (entries_of t) into in
        ap (λ (xs : List ℕ). set xs last missing) (loaded-table (entry_of t) (entries_of t) into)
        ∙ set-append_left (table k (entry_of t)) behind last missing (omega (arith, e, length-table k (entry_of t)))
        ∙ ap (λ (xs : List ℕ). xs ++ behind)
        (set-table k (entry_of t) last missing
        ∙ table_cong k (λ i. cond (eqb i last) missing (entry_of t i)) (given_at t missing)
        (λ i inside. elim (eq-or-ne i last) [
          | inl here ↦ rw (eq-eqb i last here) (sym (given_last (here ∙ is_last) (ap (entry_of t) here ∙ z)))
          | inr n ↦ rw (ne_eqb i last n)
              (sym (given_whole i (λ here w. n (sym (is_last ∙ here))) (omega arith)))
        ]))
        ∙ sym (loaded-table (given_at t missing) (entries_of t) into)

  -- A number of the array after the load is the table's entry.
  pub loaded_entry : (i : ℕ) → i < min (entries_of t) (length into)
      → get_or (loaded_into (numbers_of t) into) i 0 ≡ entry_of t i
  unfolding numbers_of
  loaded_entry i l =
      let k : ℕ = min (length into) (entries_of t) in
      ap (λ (xs : List ℕ). get_or xs i 0) (loaded-table (entry_of t) (entries_of t) into)
      ∙ get_or-append (table k (entry_of t)) (drop (entries_of t) into) 0 i (omega (arith, length-table k (entry_of t)))
      ∙ get_or-table k (entry_of t) i 0 (omega arith)

-- ── what was loaded ──

-- An array before a table is loaded into it.
abbrev pub empty : List ℕ
empty = replicate 513 0

pub room : length empty ≡ 513
room = length-replicate {A = ℕ} 513 0

-- The numbers ns, one for each entry, were loaded into an array of k.
module _ (t ns into : List ℕ) (n : ℕ) {k : ℕ} {after : List ℕ} (one_each : length ns ≡ entries_of t)
    (room : length into ≡ k) (e : n ≡ min (entries_of t) (length into)) (l : after ≡ loaded_into ns into) where
  front_of : take n after ≡ take k ns
  unfolding loaded_into
  front_of =
      let size : length (take (length into) ns) ≡ n = omega (arith, length-take (length into) ns) in
      ap (take n) l ∙ take_at (take (length into) ns) (drop (length ns) into) n size
      ∙ ap (λ (m : ℕ). take m ns) room

  length-of : n ≡ length (take n after)
  length-of = omega (arith, ap length front_of, length-take k ns)

module _ (t into : List ℕ) (n : ℕ) {k : ℕ} {after : List ℕ} (room : length into ≡ k)
    (e : n ≡ min (entries_of t) (length into)) where
  module _ (l : after ≡ loaded_into (numbers_of t) into) where
    pub loaded_front : take n after ≡ take k (numbers_of t)
    loaded_front = front_of t (numbers_of t) into n (length-numbers_of t) room e l

    pub loaded-length : n ≡ length (take n after)
    loaded-length = length-of t (numbers_of t) into n (length-numbers_of t) room e l

    pub loaded_fits : n ≤ length after
    loaded_fits = omega (arith, loaded-length, length-take n after)

  module _ (missing : ℕ) (l : after ≡ loaded_into (given_numbers t missing) into) where
    pub given_front : take n after ≡ take k (given_numbers t missing)
    given_front = front_of t (given_numbers t missing) into n (length-given_numbers t missing) room e l

    pub given-length : n ≡ length (take n after)
    given-length = length-of t (given_numbers t missing) into n (length-given_numbers t missing) room e l

-- ── the bytes of an entry ──

pub bytes_little : (v : ℕ) → to_le_bytes w64 v ≡ little_of 8 v
unfolding little_of
bytes_little v = simp div-div-eq-div-mul

-- The bytes of v, written over those of entry n.
pub put_over : (t : List ℕ) (n v : ℕ) {bytes : List ℕ} → 8 * n + 8 ≤ length t → bytes ≡ to_le_bytes w64 v
    → put_mid (8 * n) (8 * n + 8 - 8 * n) t bytes ≡ put_entry t n v
unfolding put_entry
put_over t n v {bytes} room e =
    let little : bytes ≡ little_of 8 v = e ∙ bytes_little v in
    put_mid-paste (8 * n) (8 * n + 8 - 8 * n) t bytes (little_of 8 v) 8 little (omega arith) (sym (length-little_of 8 v))
    ∙ rw (take_all 8 (little_of 8 v) (omega (arith, length-little_of 8 v)), le-leb (8 * n + 8) (length t) room)

pub put_none : (t : List ℕ) (n v : ℕ) → length t < 8 * n + 8 → t ≡ put_entry t n v
unfolding put_entry
put_none t n v l = rw (lt-leb (8 * n + 8) (length t) l)

pub put_some : (t : List ℕ) (n v : ℕ) → 8 * n + 8 ≤ length t → put_entry t n v ≡ take (8 * n) t ++ little_of 8 v ++ drop (8 * n + 8) t
unfolding put_entry
put_some t n v l = rw (le-leb (8 * n + 8) (length t) l)
