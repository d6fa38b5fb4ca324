-- Only the first 64 bookings matter to the writer, but for the first of the others that is not 0.
--     bookings-zeros      zeros behind a table bring no booking (passed on from bookings BookingLaws)
--     writer-bookings, output-bookings    the writer knows a table of bookings by its bookings above 0: it returns the
--                         same for tables with the same, and leaves the same in its output
--     first_far           the first entry of a table above 0 is for a bench that the head lacks: fault 14, its number
--     far_refused         an entry past the 64th that is the first of them above 0: 7, 8 and 14 of the entries before
--                         it, or 14 with its number
use Prim.Native.Nat.{ℕ, zero, suc, ◌+◌, ◌≤◌, ◌<◌}
use native.Mathlib.Nat.{add-zero, zero-add, add-suc, suc-add}
use native.Mathlib.Omega.{arith}
use mathlib.Core.Path.{◌≡◌, refl, sym, ap, ◌∙◌}
use mathlib.Core.Logic.{◌≢◌, inl, inr}
use mathlib.Core.List.{List, [], ◌∷◌, ◌++◌}
use lib.ListN.{length, get_or}
use borrow.Author.Tests.{eq-eqb, ne_eqb, le-leb}
use Rattle.fields.specs.declared.sheet.Head.{Head}
use Rattle.fields.specs.Contents.{Contents}
use Rattle.fields.specs.declared.fault.Fault.TheVariants.{BookedBench}
use Rattle.fields.specs.declared.fault.Fault.{Fault}
use Rattle.std.specs.Prelude.{Result, Ok, Err}
use Rattle.fields.specs.Format.{booked_from, bookings, sheet_bytes}
use Rattle.fields.specs.Tests.{first_fault, head_faults, booked_faults}
use Rattle.bookings.proofs.BookingLaws.{booked_from-append, booked_faults-append, first_fault-after}
use Rattle.bookings.proofs.BookingLaws.{first_fault-found}
pub use Rattle.bookings.proofs.BookingLaws.{bookings-zeros}
use Rattle.frame.specs.Writing.{contents_of, and_then, opening_verdict, writer_verdict, fitted, write_sheet}
use Rattle.frame.specs.Writing.{output}
use Rattle.frame.proofs.WriterLaws.{head_sound, write_accepted, write_refused}
use Rattle.frame.proofs.WholeFrames.{verdict_cases}

-- ── zeros behind a table ──

module _ (h : Head) (booked booked' ms bs : List ℕ) (same : bookings booked ≡ bookings booked') where
  abbrev one : Contents
  one = contents_of h booked ms bs

  abbrev other : Contents
  other = contents_of h booked' ms bs

  same_verdict : writer_verdict one ≡ writer_verdict other
  unfolding writer_verdict opening_verdict
  same_verdict = rw same

  same_bytes : sheet_bytes one ≡ sheet_bytes other
  same_bytes = rw same

  pub writer-bookings : (room : ℕ) → write_sheet one room ≡ write_sheet other room
  writer-bookings room = elim (verdict_cases (writer_verdict one)) [
    | inl a ↦
        write_accepted one room a
        ∙ ap (λ (s : List ℕ). fitted (length s) room) same_bytes
        ∙ sym (write_accepted other room (sym same_verdict ∙ a))
    | inr a ↦
        write_refused one room a.0 a.1 ∙ sym (write_refused other room a.0 (sym same_verdict ∙ a.1))
  ]

  same-output : (w : Result ℕ Fault) (out : List ℕ) → output w one out ≡ output w other out
  unfolding output
  same-output (Ok n) out = cc same_bytes
  same-output (Err f) out = refl

  pub output-bookings : (room : ℕ) (out : List ℕ)
      → output (write_sheet one room) one out ≡ output (write_sheet other room) other out
  output-bookings room out =
      ap (λ (w : Result ℕ Fault). output w one out) (writer-bookings room) ∙ same-output (write_sheet other room) out

-- ── an entry past the 64th ──

pub first_far : (m i : ℕ) (zs : List ℕ) (x : ℕ) → x < length zs → ((y : ℕ) → y < x → get_or zs y 0 ≡ 0)
    → get_or zs x 0 ≢ 0 → m ≤ i + x
    → first_fault (booked_faults m (booked_from i zs)) ≡ Err (BookedBench (i + x))
unfolding booked_from booked_faults
first_far m i [] x l zeros some far = absurd (omega arith)
first_far m i (z ∷ zs) zero l zeros some far =
    let past : m ≤ i = omega arith in
    rw (ne_eqb z 0 some, le-leb m i past, add-zero)
first_far m i (z ∷ zs) (suc x) l zeros some far =
    rw (eq-eqb z 0 (zeros 0 (omega arith)), add-suc, ← suc-add)
    (first_far m (suc i) zs x (omega arith) (λ y h. zeros (suc y) (omega arith)) some (omega arith))

pub far_refused : (h : Head) (front zs : List ℕ) (x : ℕ) → length front ≡ 64 → x < length zs
    → ((y : ℕ) → y < x → get_or zs y 0 ≡ 0) → get_or zs x 0 ≢ 0
    → opening_verdict h (front ++ zs) ≡ and_then (opening_verdict h front) (Err (BookedBench (64 + x)))
unfolding opening_verdict
far_refused h front zs x size l zeros some =
    let m = h.benches in
    let all : bookings (front ++ zs) ≡ bookings front ++ booked_from 64 zs =
    booked_from-append 0 front zs
    ∙ ap (λ (i : ℕ). bookings front ++ booked_from i zs) (zero-add (length front) ∙ size) in
    let tests = ap (booked_faults m) all ∙ booked_faults-append m (bookings front) (booked_from 64 zs) in
    elim (verdict_cases (first_fault (head_faults h 0))) [
      | inr a ↦ rw a.1
      | inl a ↦
          let far = first_far m 64 zs x l zeros some (omega (arith, (head_sound h 0 a).at_most_64_benches)) in
          elim (verdict_cases (first_fault (booked_faults m (bookings front)))) [
            | inl b ↦ rw (a, tests, b)
                (first_fault-after (booked_faults m (bookings front)) (booked_faults m (booked_from 64 zs)) b ∙ far)
            | inr b ↦ rw (a, tests, b.1)
                (first_fault-found (booked_faults m (bookings front)) (booked_faults m (booked_from 64 zs)) b.0 b.1)
          ]
    ]
