-- The faults of a page of sets (request S-7). A set is a number of 64 bits, of which the first bit is bench 0; a page
-- is a list of such numbers.
--     set_at page i              set i of the page, counted from 0
--     unfit benches set         number 17 holds of the set: it is empty, or it has a bench that the head lacks
--     overlap a b               the two sets share a bench
--     shares_earlier page i     number 18 holds of set i: it shares a bench with an earlier set
--     set_verdict bad shared i  what is found of set i, by whether 17 and 18 hold of it
--     verdict_at benches page i  the same of set i of a page
--     is_fault v                a fault was found
--     first_faulty benches page  the first set with a fault, and the number of sets where there is none
--     page_verdict benches page  its fault
use Rattle.std.specs.Prelude.{ℕ, Bool, true, false, cond, not, ◌&&◌, ◌||◌, List, length, get_or, ltb, Ok, Err}
use Rattle.bits.specs.Bits.{is_set}
use Rattle.sums.specs.Search.{any, least}
use Rattle.fields.specs.declared.fault.Fault.TheVariants.{SetBench, SharedBench}
use Rattle.fields.specs.Tests.{Verdict}
use Rattle.set_check.specs.SetCheck.{foreign_in}

abbrev pub set_at : List ℕ → ℕ → ℕ
set_at page i = get_or page i 0

-- Request S-6: "number 17 that the set is empty or names a bench not in the head"
unfoldable pub unfit : ℕ → ℕ → Bool
unfit benches set = not (any 64 (is_set 64 set)) || ltb (foreign_in benches set) 64

unfoldable pub overlap : ℕ → ℕ → Bool
overlap a b = any 64 (λ v. is_set 64 a v && is_set 64 b v)

-- "it shares a bench with an earlier one"
unfoldable pub shares_earlier : List ℕ → ℕ → Bool
shares_earlier page i = any i (λ k. overlap (set_at page k) (set_at page i))

-- "each for 17 and then for number 18 ...; the place of both is the set's number"
abbrev pub set_verdict : Bool → Bool → ℕ → Verdict
set_verdict bad shared i = cond bad (Err (SetBench i)) (cond shared (Err (SharedBench i)) (Ok tt))

abbrev pub verdict_at : ℕ → List ℕ → ℕ → Verdict
verdict_at benches page i = set_verdict (unfit benches (set_at page i)) (shares_earlier page i) i

abbrev pub is_fault : Verdict → Bool
is_fault (Ok _) = false
is_fault (Err f) = true

-- "Sets are tried for faults in page order"
unfoldable pub first_faulty : ℕ → List ℕ → ℕ
first_faulty benches page = least (length page) (λ i. is_fault (verdict_at benches page i))

unfoldable pub page_verdict : ℕ → List ℕ → Verdict
page_verdict benches page =
    cond (ltb (first_faulty benches page) (length page)) (verdict_at benches page (first_faulty benches page)) (Ok tt)
