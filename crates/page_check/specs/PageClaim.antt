-- What is promised of the check of a page, as facts (request S-7).
--     on_page page i            set i of the page, as a set of benches (in_set is blocking's specs/Claim)
--     ProperSet benches S       the set has a bench, and none but the head's
--     ImproperSet benches S     it is empty, or it has a bench that the head lacks
--     SharesEarlier page i      set i shares a bench with an earlier set
--     Faultless benches page n  the first n sets are proper, and no two share a bench
--     JudgedPage s page c       the sheet is accepted, and the page has no fault
--     GoodPage d page           every set is blocking, none has a bench that the head lacks, and no two share a bench
--     FirstOpen d page i        set i is the first that is not blocking
--     OneOfThree r              passed, long, or not passed
--     PageClaim s page r        the claim, of the sheet s, the page and the answer r
use Rattle.std.specs.Prelude.{ℕ, ◌≤◌, ◌<◌, ◌≡◌, Bool, true, false, List, length}
use Rattle.fields.specs.declared.fault.Fault.{Fault}
use Rattle.fields.specs.declared.fault.Fault.TheVariants.{SetBench, SharedBench}
use Rattle.fields.specs.Contents.{Contents}
use Rattle.frame.specs.Reading.{accepted, refused, read_sheet}
use Rattle.day.specs.Day.{Day, day_of}
use Rattle.demand.specs.Demand.{Assignment, SomeOver, Blocking, LongJob, EachFits, SoundLong}
use Rattle.unions.specs.Unions.{union_of, NoneShared}
use Rattle.answers.specs.declared.answer.LongAnswer.{LongAnswer}
use Rattle.answers.specs.declared.check.PageAnswer.{PageAnswer}
use Rattle.answers.specs.declared.check.PageAnswer.TheVariants.{Passed, Long, NotPassed, Fault as Faulty}
use Rattle.blocking.specs.Claim.{in_set}
use Rattle.page_faults.specs.PageFaults.{set_at}

abbrev pub on_page : List ℕ → ℕ → ℕ → Bool
on_page page i v = in_set (set_at page i) v

-- ── faults ──

pub record ProperSet (benches : ℕ) (S : ℕ → Bool) : Type 0 where
  pub some_bench : (v : ℕ) × (S v ≡ true)
  pub of_the_head : (v : ℕ) → S v ≡ true → v < benches

-- "the set is empty or names a bench not in the head"
pub data ImproperSet (benches : ℕ) (S : ℕ → Bool) : Type 0 where
  it_is_empty : ((v : ℕ) → S v ≡ false) → ImproperSet benches S
  it_names : (v : ℕ) → S v ≡ true → benches ≤ v → ImproperSet benches S

-- "it shares a bench with an earlier one"
pub record SharesEarlier (page : List ℕ) (i : ℕ) : Type 0 where
  pub earlier : ℕ
  pub before : earlier < i
  pub bench : ℕ
  pub in_earlier : on_page page earlier bench ≡ true
  pub in_this : on_page page i bench ≡ true

pub record Faultless (benches : ℕ) (page : List ℕ) (n : ℕ) : Type 0 where
  pub each_proper : (i : ℕ) → i < n → ProperSet benches (on_page page i)
  pub none_shared : NoneShared n (on_page page)

pub record JudgedPage (s page : List ℕ) (c : Contents) : Type 0 where
  pub sheet_accepted : read_sheet s ≡ accepted c
  pub faultless : Faultless c.head.benches page (length page)

-- ── judgement ──

-- "every set on it is blocking and no two share a bench"
pub record GoodPage (d : Day) (page : List ℕ) : Type 0 where
  pub each_blocking : (i : ℕ) → i < length page → Blocking d (on_page page i)
  pub of_the_head : (i : ℕ) → i < length page → (v : ℕ) → on_page page i v ≡ true → v < d.benches
  pub none_shared : NoneShared (length page) (on_page page)

pub record FirstOpen (d : Day) (page : List ℕ) (i : ℕ) : Type 0 where
  pub on_the_page : i < length page
  pub not_blocking : Blocking d (on_page page i) → ⊥
  pub earlier_blocking : (k : ℕ) → k < i → Blocking d (on_page page k)

pub data OneOfThree : PageAnswer → Type 0 where
  it_passed : OneOfThree Passed
  it_is_long : (l : LongAnswer) → OneOfThree (Long l)
  it_did_not_pass : (i : ℕ) → OneOfThree (NotPassed i)

-- Of every row of bytes and every page. The day of an accepted sheet is that of its contents, day_of c.
pub record PageClaim (s page : List ℕ) (r : PageAnswer) : Type 0 where
  -- First the faults of the sheet. Then "Sets are tried for faults in page order, each for 17 and then for number 18,
  -- that it shares a bench with an earlier one; the place of both is the set's number."
  pub sheet_refused : (f : Fault) → read_sheet s ≡ refused f → r ≡ Faulty f
  pub improper_set : (c : Contents) → read_sheet s ≡ accepted c
      → (i : ℕ) → i < length page → Faultless c.head.benches page i
      → ImproperSet c.head.benches (on_page page i) → r ≡ Faulty (SetBench i)
  pub shared_bench : (c : Contents) → read_sheet s ≡ accepted c
      → (i : ℕ) → i < length page → Faultless c.head.benches page i
      → ProperSet c.head.benches (on_page page i) → SharesEarlier page i → r ≡ Faulty (SharedBench i)
  -- Else the page is judged, or a job is too long; and only then.
  pub one_of_three : (c : Contents) → JudgedPage s page c → OneOfThree r
  pub three_judged : (c : Contents) → read_sheet s ≡ accepted c → OneOfThree r → JudgedPage s page c
  -- "After the faults, a job above T makes the answer long, as for one set", with the lowest such job.
  pub long_right : (c : Contents) → JudgedPage s page c → (l : LongAnswer) → r ≡ Long l
      → SoundLong (day_of c) l.job
  pub long_given : (c : Contents) → JudgedPage s page c → (j : ℕ) → LongJob (day_of c) j
      → (l : LongAnswer) × (r ≡ Long l)
  pub passed_fits : (c : Contents) → read_sheet s ≡ accepted c → r ≡ Passed → EachFits (day_of c)
  pub not_passed_fits : (c : Contents) → JudgedPage s page c → (i : ℕ) → r ≡ NotPassed i → EachFits (day_of c)
  -- "The page is passed if and only if every set on it is blocking and no two share a bench", by the demand's own
  -- definition of blocking.
  pub passed_good : (c : Contents) → read_sheet s ≡ accepted c → r ≡ Passed → GoodPage (day_of c) page
  pub good_passed : (c : Contents) → read_sheet s ≡ accepted c → EachFits (day_of c)
      → GoodPage (day_of c) page → r ≡ Passed
  -- "Otherwise the first set that is not blocking is named".
  pub named_is_first : (c : Contents) → JudgedPage s page c → (i : ℕ) → r ≡ NotPassed i → FirstOpen (day_of c) page i
  pub first_is_named : (c : Contents) → JudgedPage s page c → EachFits (day_of c)
      → (i : ℕ) → FirstOpen (day_of c) page i → r ≡ NotPassed i
  -- "an empty page passes"
  pub empty_page : (c : Contents) → read_sheet s ≡ accepted c → EachFits (day_of c) → length page ≡ 0 → r ≡ Passed
  -- "the union of a passed page with at least one set is blocking", so the rival has nothing within T; nor has it after
  -- long.
  pub union_blocks : (c : Contents) → read_sheet s ≡ accepted c → r ≡ Passed → 0 < length page
      → Blocking (day_of c) (union_of (length page) (on_page page))
  pub over_after_passed : (c : Contents) → read_sheet s ≡ accepted c → r ≡ Passed → 0 < length page
      → (a : ℕ → ℕ) → Assignment (day_of c) a → SomeOver (day_of c) a
  pub over_after_long : (c : Contents) → read_sheet s ≡ accepted c → (l : LongAnswer) → r ≡ Long l
      → (a : ℕ → ℕ) → Assignment (day_of c) a → SomeOver (day_of c) a
