-- Room in the three tables of the door, for an answer of k numbers.
-- Over their entries, np places, nl loads and na numbers:
--     too_few k c np nl na        fewer than the jobs, the benches or the answer's numbers: the test of fault 13
--     ReadRoom, RoomCase          the sheet is read and every table has room; what else there is
--     room_case                   every call is one of these
--     loads_room                  the room for loads that is handed on: none where the answer's numbers do not fit
--     capped                      so, with room for at most 512 places and 64 loads, short_tables is the whole test
-- Over their bytes:
--     Short, Enough               a table is too short; every table is large enough
--     short_or_enough, not-both   one of the two
--     short_tested, enough_tested what the test of fault 13 says of them
-- The three kinds of calls:
--     one_case_of                 every call is one of three, and no call is two of them
use Prim.Native.Nat.{ℕ, ◌*◌, ◌/◌, ◌≤◌, ◌<◌, min}
use native.Mathlib.Omega.{arith}
use mathlib.Core.Path.{◌≡◌, sym, ap, ap₂, subst, ◌∙◌}
use mathlib.Core.Logic.{◌⊎◌, inl, inr}
use mathlib.Core.Bool.{Bool, true, false, cond, ◌||◌}
use mathlib.Core.List.{List}
use lib.ListN.{length}
use lib.Dec.{ltb}
use borrow.Author.Tests.{ltb-false, lt-ltb, le-ltb}
use Rattle.bools.proofs.BoolLaws.{split, or_left, or_right, or-false, or-false_left, or-false_right, or_nothing}
use Rattle.bools.proofs.OrderLaws.{lt-or-le}
use Rattle.fields.specs.declared.fault.Fault.{Fault}
use Rattle.fields.specs.Contents.{Contents}
use Rattle.fields.specs.Numbers.{place_of}
use Rattle.frame.specs.Reading.{accepted, refused, read_sheet}
use Rattle.frame.specs.Sound.{SoundSheet}
use Rattle.frame.proofs.AcceptedLaws.{accepted_sound}
use Rattle.frame.proofs.Places.{read_place}
use Rattle.frame.proofs.Stored.{read_cases, not_both_read, same_read}
use Rattle.algorithm.specs.Answer.{short_tables}
use Rattle.blocking.specs.Claim.{SheetRefused, OneCase}
use Rattle.tables.specs.Tables.{room_of}

-- ── by their entries ──

abbrev pub too_few : ℕ → Contents → ℕ → ℕ → ℕ → Bool
too_few k c np nl na = short_tables c np nl || ltb na k

pub record ReadRoom (k : ℕ) (s : List ℕ) (np nl na : ℕ) : Type 0 where
  pub contents : Contents
  pub sheet_read : read_sheet s ≡ accepted contents
  pub sound_sheet : SoundSheet contents
  pub jobs_fit : length contents.jobs ≤ np
  pub benches_fit : contents.head.benches ≤ nl
  pub numbers_fit : k ≤ na
  pub tested : too_few k contents np nl na ≡ false

pub data RoomCase (k : ℕ) (s : List ℕ) (np nl na : ℕ) : Type 0 where
  sheet_refused : (f : Fault) → read_sheet s ≡ refused f → place_of f ≤ 65536 → RoomCase k s np nl na
  tables_short : (c : Contents) → read_sheet s ≡ accepted c → too_few k c np nl na ≡ true → RoomCase k s np nl na
  room_there : ReadRoom k s np nl na → RoomCase k s np nl na

pub room_case : (k : ℕ) (s : List ℕ) (np nl na : ℕ) → RoomCase k s np nl na
room_case k s np nl na = elim (read_cases (read_sheet s)) [
  | inl (f, e) ↦ sheet_refused f e (read_place s f e)
  | inr (c, e) ↦
      elim (split (too_few k c np nl na)) [
        | inl b ↦ tables_short c e b
        | inr b ↦
            let few-places : Bool = ltb np (length c.jobs) in
            let few-loads : Bool = ltb nl c.head.benches in
            let tables = or-false_left (few-places || few-loads) (ltb na k) b in
            room_there (record {
              contents = c;
              sheet_read = e;
              sound_sheet = accepted_sound s c e;
              jobs_fit = ltb-false np (length c.jobs) (or-false_left few-places few-loads tables);
              benches_fit = ltb-false nl c.head.benches (or-false_right few-places few-loads tables);
              numbers_fit = ltb-false na k (or-false_right (few-places || few-loads) (ltb na k) b);
              tested = b;
            })
      ]
]

pub loads_room : (k : ℕ) (loads numbers : List ℕ) {n : ℕ}
    → ((length numbers < 8 * k) × (n ≡ 0)) ⊎ ((8 * k ≤ length numbers) × (n ≡ min (length loads / 8) 64))
    → n ≡ cond (ltb (room_of numbers) k) 0 (min (room_of loads) 64)
loads_room k loads numbers came = elim came [
  | inl a ↦ rw (lt-ltb (room_of numbers) k (omega arith)) a.1
  | inr a ↦ rw (le-ltb (room_of numbers) k (omega arith)) a.1
]

ltb-min : (m k n : ℕ) → n ≤ k → ltb (min m k) n ≡ ltb m n
ltb-min m k n h = elim (lt-or-le m n) [
  | inl l ↦ lt-ltb (min m k) n (omega arith) ∙ sym (lt-ltb m n l)
  | inr l ↦ le-ltb (min m k) n (omega arith) ∙ sym (le-ltb m n l)
]

-- An accepted sheet has at most 512 jobs, and 1 to 64 benches.
pub capped : (k : ℕ) (s : List ℕ) (c : Contents) → read_sheet s ≡ accepted c → (np nl na : ℕ)
    → short_tables c (min np 512) (cond (ltb na k) 0 (min nl 64)) ≡ too_few k c np nl na
capped k s c e np nl na =
    let sound = accepted_sound s c e in
    let jobs : ℕ = length c.jobs in
    let benches : ℕ = c.head.benches in
    let jobs-short : ltb (min np 512) jobs ≡ ltb np jobs = ltb-min np 512 jobs sound.at_most_512_jobs in
    elim (split (ltb na k)) [
      | inl a ↦
          let benches-short : ltb 0 benches ≡ true = lt-ltb 0 benches sound.head.some_bench in
          ap (λ (b : Bool). ltb (min np 512) jobs || ltb (cond b 0 (min nl 64)) benches) a
          ∙ or_right (ltb (min np 512) jobs) benches-short
          ∙ sym (or_right (short_tables c np nl) a)
      | inr a ↦
          let benches-short = ltb-min nl 64 benches sound.head.at_most_64_benches in
          ap (λ (b : Bool). ltb (min np 512) jobs || ltb (cond b 0 (min nl 64)) benches) a
          ∙ ap₂ ◌||◌ jobs-short benches-short
          ∙ sym (ap (λ (b : Bool). short_tables c np nl || b) a ∙ or_nothing (short_tables c np nl))
    ]

-- ── by their bytes ──

abbrev pub Short : ℕ → Contents → List ℕ → List ℕ → List ℕ → Type 0
Short k c places loads numbers =
    (length places < 8 * length c.jobs) ⊎ ((length loads < 8 * c.head.benches) ⊎ (length numbers < 8 * k))

pub record Enough (k : ℕ) (c : Contents) (places loads numbers : List ℕ) : Type 0 where
  pub places_enough : 8 * length c.jobs ≤ length places
  pub loads_enough : 8 * c.head.benches ≤ length loads
  pub numbers_enough : 8 * k ≤ length numbers

module _ (k : ℕ) (c : Contents) (places loads numbers : List ℕ) where
  pub short_or_enough : Short k c places loads numbers ⊎ Enough k c places loads numbers
  short_or_enough = elim (lt-or-le (length places) (8 * length c.jobs)) [
    | inl p ↦ inl (inl (omega arith))
    | inr p ↦ elim (lt-or-le (length loads) (8 * c.head.benches)) [
      | inl l ↦ inl (inr (inl (omega arith)))
      | inr l ↦ elim (lt-or-le (length numbers) (8 * k)) [
        | inl n ↦ inl (inr (inr (omega arith)))
        | inr n ↦
            inr (record { places_enough = omega arith; loads_enough = omega arith; numbers_enough = omega arith })
      ]
    ]
  ]

  pub not-both : Short k c places loads numbers → Enough k c places loads numbers → ⊥
  not-both short t = elim short [ inl p ↦ omega arith | inr (inl l) ↦ omega arith | inr (inr n) ↦ omega arith ]

  pub short_tested : Short k c places loads numbers → too_few k c (room_of places) (room_of loads) (room_of numbers) ≡ true
  short_tested short =
      let few-places : Bool = ltb (room_of places) (length c.jobs) in
      let few-loads : Bool = ltb (room_of loads) c.head.benches in
      let few-numbers : Bool = ltb (room_of numbers) k in
      elim short [
        | inl p ↦ or_left few-numbers (or_left few-loads (lt-ltb (room_of places) (length c.jobs) (omega arith)))
        | inr (inl l) ↦
            or_left few-numbers (or_right few-places (lt-ltb (room_of loads) c.head.benches (omega arith)))
        | inr (inr n) ↦ or_right (few-places || few-loads) (lt-ltb (room_of numbers) k (omega arith))
      ]

  pub enough_tested : Enough k c places loads numbers
      → too_few k c (room_of places) (room_of loads) (room_of numbers) ≡ false
  enough_tested t =
      or-false
      (or-false
      (le-ltb (room_of places) (length c.jobs) (omega arith))
      (le-ltb (room_of loads) c.head.benches (omega arith)))
      (le-ltb (room_of numbers) k (omega arith))

-- ── the three kinds of calls ──

-- An accepted sheet has room or has not, and a sheet is read in one way only.
pub one_case_of : (s : List ℕ) (NoRoom Room : Contents → Type 0)
    → ((c : Contents) → read_sheet s ≡ accepted c → NoRoom c ⊎ Room c)
    → ((c : Contents) → Room c → read_sheet s ≡ accepted c)
    → ((c : Contents) → NoRoom c → Room c → ⊥)
    → OneCase (SheetRefused s) ((c : Contents) × (read_sheet s ≡ accepted c) × NoRoom c) ((c : Contents) × Room c)
one_case_of s NoRoom Room room-or-not its-read apart = record {
  some = elim (read_cases (read_sheet s)) [
    | inl faulty ↦ inl faulty
    | inr (c, e) ↦ elim (room-or-not c e) [ inl short ↦ inr (inl (c, e, short)) | inr room ↦ inr (inr (c, room)) ]
  ];
  not_first_second = λ (f, p) (c, q, short). not_both_read p q;
  not_first_third = λ (f, p) (c, room). not_both_read p (its-read c room);
  not_second_third = λ (c, e, short) (k, room). apart k (subst NoRoom (same_read e (its-read k room)) short) room;
}
