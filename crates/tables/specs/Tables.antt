-- Tables of 8-byte numbers, the least significant byte first (the header yinqocha.h says the same in words).
-- A table that is read:
--     entries_of t      its entries; a begun entry counts
--     entry_of t n       entry n; bytes that the table lacks are 0
--     numbers_of t      all entries
--     lacks_bytes t n   the table ends inside entry n, or before it
--     given_at t missing n    entry n; where it lacks bytes and those that are there are 0, the number `missing`
--     given_numbers t missing  all entries so
--     first_from t from  its first entry from number `from` on that is not 0; the number of entries where there is none
--     found_from t from  the same, and none where there is none
--     loaded_into ns xs  the numbers xs with ns in front, as many as there is room for; the others stay
-- A table that is written:
--     put_entry t n v   the table with v as entry n; without room for the entry, the table as it is
--     room_of t         its whole entries
--     put_numbers ns t  the table with the numbers ns as its first entries; every other byte keeps its contents
--     put_fitting ns t  the same with as many of the numbers as the table has room for
use Rattle.std.specs.Prelude.{ℕ, ◌+◌, ◌*◌, ◌/◌, Bool, cond, not, ◌&&◌, List, ◌++◌, length, take, drop, eqb, leb, ltb}
use Rattle.std.specs.Prelude.{Option, Some, None}
use Rattle.sums.specs.Search.{least}
use Rattle.sums.specs.Table.{table}
use Rattle.bits.specs.Little.{little, little_of, little_all}

unfoldable pub entries_of : List ℕ → ℕ
entries_of t = (length t + 7) / 8

unfoldable pub entry_of : List ℕ → ℕ → ℕ
entry_of t n = little (drop (8 * n) t) 8

unfoldable pub numbers_of : List ℕ → List ℕ
numbers_of t = table (entries_of t) (entry_of t)

-- Request S-3: a 0 of which bytes are missing is not given.
abbrev pub lacks_bytes : List ℕ → ℕ → Bool
lacks_bytes t n = ltb (length t) (8 * n + 8)

unfoldable pub given_at : List ℕ → ℕ → ℕ → ℕ
given_at t missing n = cond (lacks_bytes t n && eqb (entry_of t n) 0) missing (entry_of t n)

unfoldable pub given_numbers : List ℕ → ℕ → List ℕ
given_numbers t missing = table (entries_of t) (given_at t missing)

unfoldable pub first_from : List ℕ → ℕ → ℕ
first_from t from = least (entries_of t) (λ n. leb from n && not (eqb (entry_of t n) 0))

unfoldable pub found_from : List ℕ → ℕ → Option ℕ
found_from t from = cond (ltb (first_from t from) (entries_of t)) (Some (first_from t from)) None

unfoldable pub loaded_into : List ℕ → List ℕ → List ℕ
loaded_into ns xs = take (length xs) ns ++ drop (length ns) xs

unfoldable pub put_entry : List ℕ → ℕ → ℕ → List ℕ
put_entry t n v = cond (leb (8 * n + 8) (length t)) (take (8 * n) t ++ little_of 8 v ++ drop (8 * n + 8) t) t

abbrev pub room_of : List ℕ → ℕ
room_of t = length t / 8

unfoldable pub put_numbers : List ℕ → List ℕ → List ℕ
put_numbers ns t = little_all 8 ns ++ drop (8 * length ns) t

unfoldable pub put_fitting : List ℕ → List ℕ → List ℕ
put_fitting ns t = put_numbers (take (room_of t) ns) t
