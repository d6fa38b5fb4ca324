-- The bookings of a table, entry by entry.
--     booked_from-cons        the bookings of a table are those of its first entry and then those of the others
--     booked_from-append      those of two tables, one behind the other
--     booked_from-drop        those from entry i on are that of entry i, if it has one, and then those behind it
--     bookings-more           those of entry i, behind those before it
--     bookings-zeros          zeros behind a table bring no booking
--     bookings-below          the first entries have no more bookings than all
--     count-bookings          there are as many as entries above 0
-- The verdict on bookings:
--     cond-accepted           a test and then a verdict accept: the test does not hold, and the verdict accepts
--     booked_faults-append    the tests of two lists, one list after the other
--     first_fault-after, first_fault-found    of two lists of tests the first finds nothing, or finds a fault
--     booking_fault-none      14 does not hold of a booking: its bench is in the head, and its minutes fit
--     cut_bookings-fit        14 holds of no booking: then no number is cut
--     never_15                a fault of bookings is 14
--     few-bookings            14 holds of no booking of a table: then there are at most as many as the head has benches
--     bookings-fit, fit-bookings      then each number fits, and benches that the head lacks have 0; and back
-- The loop that checks a table, at entry i:
--     zero-passes             an entry of 0 has no fault
--     entry_checked           of any other entry check_booking finds 14, if no bench is in its set
--     verdict_from m bs i     14 for the bookings from bench i on
--     entry_sound, entry_fault, entries_over      entry i is sound, is faulty, or does not exist
-- Frames put into an output:
--     cut_bookings-append     the bookings of two lists, cut
--     table_frames bs         what is put for the table bs
--     length-table_frames     it has 7 bytes for each booking
--     table_frames-more       what is put up to entry i and with it
--     length-entry            7 bytes are put for an entry above 0
--     zero-put, entry_put     for an entry of 0 nothing is put, for any other one a frame
--     PutUpTo bs out i at after       the loop over the table bs put the first i entries into out, up to byte at
--     entries_none, entries_more, entries_put     so it begins, goes on and ends
--     entry_room              there is room for entry i
--     entries_short           without room for all nothing is put
use Prim.Native.Nat.{ℕ, zero, suc, ◌+◌, ◌-◌, ◌*◌, ◌/◌, ◌^◌, ◌≤◌, ◌<◌}
use native.Mathlib.Nat.{add-zero, add-suc, suc-add}
use native.Mathlib.Numerals.{add-one}
use native.Mathlib.Omega.{arith}
use mathlib.Core.Path.{◌≡◌, refl, sym, ap, ◌∙◌}
use mathlib.Core.Bool.{Bool, true, false, cond}
use mathlib.Core.Logic.{◌≢◌, inl, inr}
use mathlib.Core.List.{List, [], ◌∷◌, ◌++◌, append_assoc, append-nil}
use lib.ListN.{length, get_or, take, drop, length-append, length-map, length-take, drop_of_length-le, take-append-drop}
use lib.Seq.{drop-cons, take-suc, take_all}
use lib.Dec.{eqb, leb}
use borrow.Rule.Slice.PartMut.{post_of, Post-is}
use borrow.Author.Tests.{lt-leb, eq-eqb, ne_eqb}
use Rattle.bools.proofs.BoolLaws.{split, tests, or-false, or-false_left, or-false_right}
use Rattle.bools.proofs.OrderLaws.{lt-or-le}
use Rattle.bits.specs.Bits.{is_set}
use Rattle.bits.proofs.SetBits.{is_set-zero}
use Rattle.fields.specs.declared.sheet.Booking.{Booking}
use Rattle.fields.specs.declared.fault.Fault.{Fault}
use Rattle.fields.specs.declared.fault.Fault.TheVariants.{BookedBench}
use Rattle.std.proofs.lemmas.List.Sums.{sum_by-cons}
use Rattle.std.specs.Prelude.{not, ◌==◌, count_by, Ok, Err}
use Rattle.fields.specs.Format.{booked_from, bookings, booking_frame, booking_frames}
use Rattle.fields.specs.Tests.{Verdict, Test, first_fault, booking_fault, booking_faults, booked_faults}
use Rattle.fields.proofs.FormatLaws.{length-booking_frame, length-booking_frames, booking_frames-append}
use Rattle.packing.specs.Packing.{cut_booking, frame_put}
use Rattle.packing.proofs.PutLaws.{written, written_after, frame_put-room, frame_put-none, cut_booking-fits, booking_part}
use Rattle.bookings.specs.Bookings.{cut_bookings, entry_frames}

-- ── the bookings of a table ──

pub booked_from-cons : (b n : ℕ) (ns : List ℕ) → booked_from b (n ∷ ns) ≡ booked_from b (n ∷ []) ++ booked_from (suc b) ns
unfolding booked_from
booked_from-cons b n ns = elim (split (eqb n 0)) [ inl p ↦ rw p | inr p ↦ rw p ]

pub booked_from-append : (b : ℕ) (first second : List ℕ)
    → booked_from b (first ++ second) ≡ booked_from b first ++ booked_from (b + length first) second
unfolding booked_from
booked_from-append b [] second = rw add-zero
booked_from-append b (n ∷ ns) second =
    let ih = booked_from-append (suc b) ns second in
    elim (split (eqb n 0)) [ inl p ↦ rw (p, add-suc, ← suc-add) ih | inr p ↦ rw (p, add-suc, ← suc-add, ih) ]

pub booked_from-drop : (i : ℕ) (bs : List ℕ) → i < length bs
    → booked_from i (drop i bs) ≡ booked_from i (get_or bs i 0 ∷ []) ++ booked_from (suc i) (drop (suc i) bs)
booked_from-drop i bs l =
    ap (booked_from i) (drop-cons bs i 0 l) ∙ booked_from-cons i (get_or bs i 0) (drop (suc i) bs)

pub bookings-more : (i : ℕ) (bs : List ℕ) → i < length bs
    → bookings (take (i + 1) bs) ≡ bookings (take i bs) ++ booked_from i (get_or bs i 0 ∷ [])
bookings-more i bs l =
    let size : 0 + length (take i bs) ≡ i = omega (arith, length-take i bs) in
    ap (λ (n : ℕ). bookings (take n bs)) (add-one i)
    ∙ ap bookings (take-suc bs i 0 l)
    ∙ booked_from-append 0 (take i bs) (get_or bs i 0 ∷ [])
    ∙ ap (λ (b : ℕ). bookings (take i bs) ++ booked_from b (get_or bs i 0 ∷ [])) size

booked_from-zeros : (b : ℕ) (zs : List ℕ) → ((v : ℕ) → get_or zs v 0 ≡ 0) → booked_from b zs ≡ []
unfolding booked_from
booked_from-zeros b [] h = refl
booked_from-zeros b (z ∷ zs) h = rw (eq-eqb z 0 (h 0)) (booked_from-zeros (suc b) zs (λ v. h (suc v)))

pub bookings-zeros : (bs zs : List ℕ) → ((v : ℕ) → get_or zs v 0 ≡ 0) → bookings (bs ++ zs) ≡ bookings bs
bookings-zeros bs zs h =
    booked_from-append 0 bs zs
    ∙ ap (λ (rest : List Booking). bookings bs ++ rest) (booked_from-zeros (0 + length bs) zs h)
    ∙ append-nil (bookings bs)

pub bookings-below : (i : ℕ) (bs : List ℕ) → length (bookings (take i bs)) ≤ length (bookings bs)
bookings-below i bs =
    let whole : bookings bs ≡ bookings (take i bs) ++ booked_from (0 + length (take i bs)) (drop i bs) =
    ap bookings (sym (take-append-drop i bs)) ∙ booked_from-append 0 (take i bs) (drop i bs) in
    let size = ap length whole ∙ length-append (bookings (take i bs)) _ in
    omega (arith, size)

pub count-bookings : (b : ℕ) (ns : List ℕ) → count_by (λ n. not (n == 0)) ns ≡ length (booked_from b ns)
unfolding booked_from
count-bookings b [] = refl
count-bookings b (n ∷ ns) =
    let first = sum_by-cons (λ x. cond (not (x == 0)) 1 0) n ns in
    let ih = count-bookings (suc b) ns in
    elim (split (eqb n 0)) [ inl p ↦ first ∙ rw p (omega arith) | inr p ↦ first ∙ rw p (omega arith) ]

-- ── the verdict on bookings ──

pub cond-accepted : (b : Bool) (f : Fault) (v : Verdict) → cond b (Err f) v ≡ Ok tt
    → (b ≡ false) × (v ≡ Ok tt)
cond-accepted true f v e = let z : ◌≡◌ {A = ℕ} 0 1 = cc in absurd (omega arith)
cond-accepted false f v e = (refl, e)

pub booked_faults-append : (m : ℕ) (first second : List Booking)
    → booked_faults m (first ++ second) ≡ booked_faults m first ++ booked_faults m second
unfolding booked_faults
booked_faults-append m [] second = refl
booked_faults-append m (b ∷ first) second = rw (booked_faults-append m first second)

pub first_fault-after : (first second : List Test) → first_fault first ≡ Ok tt
    → first_fault (first ++ second) ≡ first_fault second
first_fault-after [] second e = refl
first_fault-after (t ∷ first) second e =
    let a = cond-accepted t.holds t.fault (first_fault first) e in
    rw a.0 (first_fault-after first second a.1)

pub first_fault-found : (first second : List Test) (f : Fault) → first_fault first ≡ Err f
    → first_fault (first ++ second) ≡ Err f
first_fault-found [] second f e = let z : ◌≡◌ {A = ℕ} 0 1 = cc in absurd (omega arith)
first_fault-found (t ∷ first) second f e = elim (split t.holds) [
  | inl p ↦ rw p (rw p at e)
  | inr p ↦ rw p (first_fault-found first second f (rw p at e))
]

pub booking_fault-none : (m : ℕ) (b : Booking) → booking_fault m b ≡ false → (b.bench < m) × (b.minutes < 2 ^ 20)
booking_fault-none m b e =
    let lacking : leb m b.bench ≡ false = or-false_left _ (leb (2 ^ 20) b.minutes) e in
    let wide : leb (2 ^ 20) b.minutes ≡ false = or-false_right (leb m b.bench) _ e in
    omega tests

-- 14 of one booking, and then of those behind it; 15 never holds.
verdict-cons : (m : ℕ) (b : Booking) (bs : List Booking)
    → first_fault (booked_faults m (b ∷ bs))
    ≡ cond (booking_fault m b) (Err (BookedBench b.bench)) (first_fault (booked_faults m bs))
unfolding booked_faults
verdict-cons m b bs = refl

verdict_none : (m : ℕ) → first_fault (booked_faults m []) ≡ Ok tt
unfolding booked_faults
verdict_none m = refl

-- Of a list of bookings that passes, its first booking does, and so do the others.
passed : (m : ℕ) (b : Booking) (bs : List Booking) → first_fault (booked_faults m (b ∷ bs)) ≡ Ok tt
    → (b.bench < m) × (b.minutes < 2 ^ 20) × (first_fault (booked_faults m bs) ≡ Ok tt)
passed m b bs e =
    let a = cond-accepted (booking_fault m b) _ _ (sym (verdict-cons m b bs) ∙ e) in
    let fits = booking_fault-none m b a.0 in
    (fits.0, fits.1, a.1)

pub cut_bookings-fit : (m : ℕ) (bs : List Booking) → m ≤ 64 → first_fault (booked_faults m bs) ≡ Ok tt
    → cut_bookings bs ≡ bs
cut_bookings-fit m [] l e = refl
cut_bookings-fit m (b ∷ bs) l e =
    let (bench, minutes, rest) = passed m b bs e in
    rw (cut_booking-fits b (omega arith) minutes, cut_bookings-fit m bs l rest)

pub never_15 : (m : ℕ) (bs : List Booking) (f : Fault) → first_fault (booked_faults m bs) ≡ Err f
    → (b : ℕ) × (f ≡ BookedBench b)
never_15 m [] f e =
    let none : Ok tt ≡ Err f = sym (verdict_none m) ∙ e in
    let z : ◌≡◌ {A = ℕ} 0 1 = cc in absurd (omega arith)
never_15 m (b ∷ bs) f e =
    let first = sym (verdict-cons m b bs) ∙ e in
    elim (split (booking_fault m b)) [
      | inl p ↦ (b.bench, let same : Err (BookedBench b.bench) ≡ Err f = rw p at first in cc)
      | inr p ↦ never_15 m bs f (rw p at first)
    ]

-- The first entry of a table that passes fits, and the others pass.
entry_passed : (m b n : ℕ) (ns : List ℕ) → first_fault (booked_faults m (booked_from b (n ∷ ns))) ≡ Ok tt
    → (n < 2 ^ 20) × (m ≤ b → n ≡ 0) × (first_fault (booked_faults m (booked_from (suc b) ns)) ≡ Ok tt)
unfolding booked_from
entry_passed m b n ns e = elim (split (eqb n 0)) [
  | inl p ↦ (omega tests, λ l. omega tests, rw p at e)
  | inr p ↦
      let (bench, minutes, rest) = passed m (record { bench = b; minutes = n }) (booked_from (suc b) ns) (rw p at e) in
      (minutes, λ l. absurd (omega arith), rest)
]

-- The other way round.
passed_entry : (m b n : ℕ) (ns : List ℕ) → n < 2 ^ 20 → (m ≤ b → n ≡ 0)
    → first_fault (booked_faults m (booked_from (suc b) ns)) ≡ Ok tt
    → first_fault (booked_faults m (booked_from b (n ∷ ns))) ≡ Ok tt
unfolding booked_from
passed_entry m b n ns fits held rest = elim (split (eqb n 0)) [
  | inl p ↦ rw p rest
  | inr p ↦
      let inside : b < m = elim (lt-or-le b m) [ inl l ↦ l | inr l ↦ absurd (omega (tests, held l)) ] in
      let fine : booking_fault m (record { bench = b; minutes = n }) ≡ false =
      or-false (lt-leb m b inside) (lt-leb (2 ^ 20) n fits) in
      rw p (verdict-cons m (record { bench = b; minutes = n }) (booked_from (suc b) ns) ∙ rw fine rest)
]

few_from : (m b : ℕ) (ns : List ℕ) → first_fault (booked_faults m (booked_from b ns)) ≡ Ok tt
    → length (booked_from b ns) ≤ m - b
unfolding booked_from
few_from m b [] e = omega arith
few_from m b (n ∷ ns) e =
    let (fits, held, rest) = entry_passed m b n ns e in
    let ih = few_from m (suc b) ns rest in
    elim (split (eqb n 0)) [
      | inl p ↦ rw p (omega arith)
      | inr p ↦
          let inside : b < m = elim (lt-or-le b m) [ inl l ↦ l | inr l ↦ absurd (omega (tests, held l)) ] in
          rw p (omega arith)
    ]

pub few-bookings : (m : ℕ) (bs : List ℕ) → first_fault (booked_faults m (bookings bs)) ≡ Ok tt
    → length (bookings bs) ≤ m
few-bookings m bs e = omega (arith, few_from m 0 bs e)

fit_from : (m b : ℕ) (ns : List ℕ) → first_fault (booked_faults m (booked_from b ns)) ≡ Ok tt
    → (v : ℕ) → (get_or ns v 0 < 2 ^ 20) × (m ≤ b + v → get_or ns v 0 ≡ 0)
fit_from m b [] e v = (omega arith, λ l. refl)
fit_from m b (n ∷ ns) e zero = let (fits, held, rest) = entry_passed m b n ns e in (fits, λ l. held (omega arith))
fit_from m b (n ∷ ns) e (suc v) =
    let (fits, held, rest) = entry_passed m b n ns e in
    let (below, none) = fit_from m (suc b) ns rest v in
    (below, λ l. none (omega arith))

pub bookings-fit : (m : ℕ) (bs : List ℕ) → first_fault (booked_faults m (bookings bs)) ≡ Ok tt
    → (v : ℕ) → (get_or bs v 0 < 2 ^ 20) × (m ≤ v → get_or bs v 0 ≡ 0)
bookings-fit m bs e v = let (below, none) = fit_from m 0 bs e v in (below, λ l. none (omega arith))

from_fit : (m b : ℕ) (ns : List ℕ) → ((v : ℕ) → get_or ns v 0 < 2 ^ 20) → ((v : ℕ) → m ≤ b + v → get_or ns v 0 ≡ 0)
    → first_fault (booked_faults m (booked_from b ns)) ≡ Ok tt
unfolding booked_from
from_fit m b [] fits held = verdict_none m
from_fit m b (n ∷ ns) fits held =
    passed_entry m b n ns (fits 0) (λ l. held 0 (omega arith))
    (from_fit m (suc b) ns (λ v. fits (suc v)) (λ v l. held (suc v) (omega arith)))

pub fit-bookings : (m : ℕ) (bs : List ℕ) → ((v : ℕ) → get_or bs v 0 < 2 ^ 20)
    → ((v : ℕ) → m ≤ v → get_or bs v 0 ≡ 0) → first_fault (booked_faults m (bookings bs)) ≡ Ok tt
fit-bookings m bs fits held = from_fit m 0 bs fits (λ v l. held v (omega arith))

-- ── the loop that checks a table ──

pub zero-passes : (m b n : ℕ) → n ≡ 0 → Ok tt ≡ first_fault (booked_faults m (booked_from b (n ∷ [])))
unfolding booked_from
zero-passes m b n e = rw (eq-eqb n 0 e) (sym (verdict_none m))

pub entry_checked : (m b n : ℕ) {v : Verdict} → n ≢ 0
    → v ≡ first_fault (booking_faults m (is_set 64 0) (record { bench = b; minutes = n }) b)
    → v ≡ first_fault (booked_faults m (booked_from b (n ∷ [])))
unfolding booked_from booked_faults
entry_checked m b n some e = rw (ne_eqb n 0 some) (e ∙ rw (is_set-zero 64 b))

module _ (m : ℕ) (bs : List ℕ) where
  abbrev pub verdict_from : ℕ → Verdict
  verdict_from i = first_fault (booked_faults m (booked_from i (drop i bs)))

  abbrev entry_tests : ℕ → List Test
  entry_tests i = booked_faults m (booked_from i (get_or bs i 0 ∷ []))

  split_tests : (i : ℕ) → i < length bs
      → verdict_from i ≡ first_fault (entry_tests i ++ booked_faults m (booked_from (suc i) (drop (suc i) bs)))
  split_tests i l =
      ap (λ (some : List Booking). first_fault (booked_faults m some)) (booked_from-drop i bs l)
      ∙ ap first_fault (booked_faults-append m (booked_from i (get_or bs i 0 ∷ [])) (booked_from (suc i) (drop (suc i) bs)))

  pub entry_sound : (i : ℕ) {v : Verdict} → i < length bs → v ≡ first_fault (entry_tests i) → v ≡ Ok tt
      → verdict_from i ≡ verdict_from (i + 1)
  entry_sound i l e a =
      rw (add-one i)
      (split_tests i l
      ∙ first_fault-after (entry_tests i) (booked_faults m (booked_from (suc i) (drop (suc i) bs))) (sym e ∙ a))

  pub entry_fault : (i : ℕ) {v : Verdict} {f : Fault} → i < length bs → v ≡ first_fault (entry_tests i) → v ≡ Err f
      → verdict_from i ≡ Err f
  entry_fault i {f = f} l e a =
      split_tests i l
      ∙ first_fault-found (entry_tests i) (booked_faults m (booked_from (suc i) (drop (suc i) bs))) f (sym e ∙ a)

  pub entries_over : (i : ℕ) → length bs ≤ i → verdict_from i ≡ Ok tt
  unfolding booked_from
  entries_over i l =
      ap (λ (rest : List ℕ). first_fault (booked_faults m (booked_from i rest))) (drop_of_length-le bs l) ∙ verdict_none m

-- ── frames put into an output ──

pub cut_bookings-append : (first second : List Booking)
    → cut_bookings (first ++ second) ≡ cut_bookings first ++ cut_bookings second
cut_bookings-append [] second = refl
cut_bookings-append (b ∷ first) second = rw (cut_bookings-append first second)

-- What is put for a whole table.
abbrev pub table_frames : List ℕ → List ℕ
table_frames bs = booking_frames (cut_bookings (bookings bs))

pub length-table_frames : (bs : List ℕ) → length (table_frames bs) ≡ 7 * length (bookings bs)
length-table_frames bs =
    length-booking_frames (cut_bookings (bookings bs))
    ∙ ap (λ (n : ℕ). 7 * n) (length-map (bookings bs) cut_booking)

pub table_frames-more : (i : ℕ) (bs : List ℕ) → i < length bs
    → table_frames (take (i + 1) bs) ≡ table_frames (take i bs) ++ entry_frames i (get_or bs i 0)
table_frames-more i bs l =
    let last = booked_from i (get_or bs i 0 ∷ []) in
    ap (λ (some : List Booking). booking_frames (cut_bookings some)) (bookings-more i bs l)
    ∙ ap booking_frames (cut_bookings-append (bookings (take i bs)) last)
    ∙ booking_frames-append (cut_bookings (bookings (take i bs))) (cut_bookings last)

entry_zero : (b n : ℕ) → n ≡ 0 → entry_frames b n ≡ []
unfolding booked_from booking_frames
entry_zero b n none = rw (eq-eqb n 0 none)

entry_one : (b n : ℕ) → n ≢ 0 → entry_frames b n ≡ booking_frame (cut_booking (record { bench = b; minutes = n }))
unfolding booked_from booking_frames
entry_one b n some = rw (ne_eqb n 0 some) (append-nil _)

pub length-entry : (b n : ℕ) → n ≢ 0 → length (entry_frames b n) ≡ 7
length-entry b n some =
    ap length (entry_one b n some) ∙ length-booking_frame (cut_booking (record { bench = b; minutes = n }))

pub zero-put : (b n at : ℕ) (out : List ℕ) → n ≡ 0
    → (at ≡ at + length (entry_frames b n)) × (out ≡ written out at (entry_frames b n) at)
zero-put b n at out none =
    rw (entry_zero b n none) (omega arith, rw (append-nil (take at out)) (sym (take-append-drop at out)))

-- The frame is put into the part of the output that is as long, from byte at on.
pub entry_put : (b n at : ℕ) (out part : List ℕ) → n ≢ 0 → at + length (entry_frames b n) ≤ length out
    → part
    ≡ frame_put (booking_frame (cut_booking (record { bench = b; minutes = n }))) 0 (take (at + 7 - at) (drop at out))
    → (at + 7 ≡ at + length (entry_frames b n))
    × (take at out ++ (part ++ post_of at (at + 7 - at) out) ≡ written out at (entry_frames b n) (at + 7))
entry_put b n at out part some room put =
    let size = length-entry b n some in
    let width : at + 7 - at ≡ 7 = omega arith in
    let fills = booking_part (record { bench = b; minutes = n }) out width at (omega arith) in
    let whole : part ≡ entry_frames b n = put ∙ fills ∙ sym (entry_one b n some) in (
      omega arith,
      ap (λ (ys : List ℕ). take at out ++ (ys ++ post_of at (at + 7 - at) out)) whole
          ∙ ap (λ (rest : List ℕ). take at out ++ (entry_frames b n ++ rest)) (Post-is at (at + 7) out (omega arith))
          ∙ sym (append_assoc (take at out) (entry_frames b n) (drop (at + 7) out)),
    )

-- The frames of the first i entries stand at the front of the output, up to byte at, and all else is as it was.
pub record PutUpTo (bs out : List ℕ) (i at : ℕ) (after : List ℕ) : Type 0 where
  pub some_entries : i ≤ length bs
  pub same_length : length after ≡ length out
  pub ends : at ≡ length (table_frames (take i bs))
  pub stands : after ≡ written out 0 (table_frames (take i bs)) at

module _ (bs out : List ℕ) where
  pub entries_none : PutUpTo bs out 0 0 out
  unfolding booked_from booking_frames
  entries_none = record { some_entries = omega arith; same_length = refl; ends = refl; stands = refl }

  -- For the first i entries no more is put than for the whole table.
  frames_below : (i : ℕ) → length (table_frames (take i bs)) ≤ length (table_frames bs)
  frames_below i = omega (arith, length-table_frames (take i bs), length-table_frames bs, bookings-below i bs)

  length_more : (i : ℕ) → i < length bs
      → length (table_frames (take (i + 1) bs)) ≡ length (table_frames (take i bs)) + length (entry_frames i (get_or bs i 0))
  length_more i l =
      ap length (table_frames-more i bs l) ∙ length-append (table_frames (take i bs)) (entry_frames i (get_or bs i 0))

  pub entry_room : (i at : ℕ) (after : List ℕ) → i < length bs → 7 * length (bookings bs) ≤ length out
      → PutUpTo bs out i at after → at + length (entry_frames i (get_or bs i 0)) ≤ length after
  entry_room i at after l room put = omega (arith, length_more i l, frames_below (i + 1), length-table_frames bs)

  pub entries_more : (i at next : ℕ) (one two : List ℕ) → i < length bs → PutUpTo bs out i at one
      → length two ≡ length one → next ≡ at + length (entry_frames i (get_or bs i 0))
      → two ≡ written one at (entry_frames i (get_or bs i 0)) next → PutUpTo bs out (i + 1) next two
  entries_more i at next one two l put kept behind second =
      record {
        some_entries = omega arith;
        same_length = kept ∙ put.same_length;
        ends = omega (arith, length_more i l);
        stands =
            second
            ∙ rw (put.stands, table_frames-more i bs l)
            (written_after out 0 (table_frames (take i bs)) (entry_frames i (get_or bs i 0)) at next (omega arith)
            (omega arith) (omega arith));
      }

  pub entries_put : (i at : ℕ) (after : List ℕ) → length bs ≤ i → 7 * length (bookings bs) ≤ length out
      → PutUpTo bs out i at after → after ≡ frame_put (table_frames bs) 0 out
  entries_put i at after l room put =
      let all : table_frames (take i bs) ≡ table_frames bs = ap table_frames (take_all i bs l) in
      let size : 0 + length (table_frames bs) ≡ at = omega (arith, ap length all, put.ends) in
      put.stands
      ∙ ap (λ (s : List ℕ). written out 0 s at) all
      ∙ sym (frame_put-room (table_frames bs) 0 out at size (omega (arith, length-table_frames bs)))

  pub entries_short : length out / 7 < length (bookings bs) → out ≡ frame_put (table_frames bs) 0 out
  entries_short short =
      let size = length-table_frames bs in
      frame_put-none (table_frames bs) 0 out (length (table_frames bs)) (omega arith) (omega arith)
