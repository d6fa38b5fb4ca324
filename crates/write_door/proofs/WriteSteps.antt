-- What writing through the door gives, from what the loads and the writer ensure: 513 entries of each table of jobs are
-- enough, and 64 of the table of bookings, where those behind them are 0.
--     jobs_returned, jobs_put     the result and the output, by the first 513 entries of each table
--     sheet_near                  no entry past the 64th is above 0: they are those of the first 64 entries
--     sheet_far                   one is: 7, 8 or 14 of the first 64 entries, or 14 with the first such number
use Prim.Native.Nat.{ℕ}
use native.Mathlib.Omega.{arith}
use mathlib.Core.Path.{◌≡◌, refl, sym, ap, ◌∙◌}
use mathlib.Core.List.{List, ◌++◌}
use lib.ListN.{length, take, drop, length-take, take-append-drop}
use Rattle.fields.specs.declared.sheet.Head.{Head}
use Rattle.fields.specs.declared.fault.Fault.{Fault}
use Rattle.fields.specs.declared.fault.Fault.TheVariants.{BookedBench}
use Rattle.fields.specs.Tests.{Verdict}
use Rattle.fields.specs.Contents.{Contents}
use Rattle.fields.specs.Format.{bookings}
use Rattle.std.specs.Prelude.{Some, None, Result, Ok, Err}
use Rattle.std.specs.Result.{result_and}
use Rattle.frame.specs.Writing.{contents_of, and_then, opening_verdict, writer_verdict, write_sheet, output}
use Rattle.frame.proofs.EnoughBookings.{bookings-zeros, writer-bookings, output-bookings, far_refused}
use Rattle.frame.proofs.EnoughJobs.{jobs_enough, output-jobs_enough}
use Rattle.frame.proofs.WriterLaws.{write_refused, output-refused}
use Rattle.tables.specs.Tables.{numbers_of, found_from}
use Rattle.tables.proofs.FirstSteps.{numbers-zero, numbers_first}
use Rattle.tables.proofs.TableSteps.{length-numbers_of}
use Rattle.door.specs.Door.{minutes_in, contents_in}

-- ── the tables of jobs ──

module _ (h : Head) (booked minutes allowed out : List ℕ) {ms bs : List ℕ} {w : Result ℕ Fault} {after : List ℕ}
    (p : ms ≡ take 513 (minutes_in minutes)) (q : bs ≡ take 513 (numbers_of allowed))
    (e : w ≡ write_sheet (contents_of h booked ms bs) (length out))
    (o : after ≡ output w (contents_of h booked ms bs) out) where
  abbrev jobs : Contents
  jobs = contents_of h booked (minutes_in minutes) (numbers_of allowed)

  pub jobs_returned : w ≡ write_sheet jobs (length out)
  jobs_returned = e ∙ rw (p, q) (jobs_enough h booked (minutes_in minutes) (numbers_of allowed) (length out))

  pub jobs_put : after ≡ output w jobs out
  jobs_put = o ∙ rw (e, p, q) (output-jobs_enough h booked (minutes_in minutes) (numbers_of allowed) (length out) out)
      ∙ ap (λ (r : Result ℕ Fault). output r jobs out) (sym jobs_returned)

-- ── the table of bookings ──

-- A fault behind a verdict: that of the verdict, where there is one.
fault_then : (v : Verdict) (f : Fault)
    → (g : Fault) × (result_and {U = ℕ} v (Err f) ≡ Err g) × (and_then v (Err f) ≡ Err g)
fault_then (Ok t) f = (f, refl, refl)
fault_then (Err g) f = (g, refl, refl)

module _ (h : Head) (booked minutes allowed out : List ℕ) {day : List ℕ} (p : day ≡ take 64 (numbers_of booked)) where
  abbrev whole : Contents
  whole = contents_in h booked minutes allowed

  abbrev front : Contents
  front = contents_of h day (minutes_in minutes) (numbers_of allowed)

  in_two : day ++ drop 64 (numbers_of booked) ≡ numbers_of booked
  in_two =
      ap (λ (bs : List ℕ). bs ++ drop 64 (numbers_of booked)) p ∙ take-append-drop 64 (numbers_of booked)

  same-bookings : found_from booked 64 ≡ None → bookings day ≡ bookings (numbers_of booked)
  same-bookings e =
      sym (bookings-zeros day (drop 64 (numbers_of booked)) (numbers-zero booked 64 e)) ∙ ap bookings in_two

  pub sheet_near : {r : Result ℕ Fault} {after : List ℕ} → found_from booked 64 ≡ None → r ≡ write_sheet front (length out)
      → after ≡ output r front out
      → (r ≡ write_sheet whole (length out)) × (after ≡ output r whole out)
  sheet_near none e o =
      let same = same-bookings none in
      let returned = e ∙ writer-bookings h day (numbers_of booked) (minutes_in minutes) (numbers_of allowed) same (length out) in (
        returned,
        o ∙ ap (λ (w : Result ℕ Fault). output w front out) e
            ∙ output-bookings h day (numbers_of booked) (minutes_in minutes) (numbers_of allowed) same (length out) out
            ∙ ap (λ (w : Result ℕ Fault). output w whole out) (sym returned),
      )

  pub sheet_far : {far : ℕ} {r : Result ℕ Fault} → found_from booked 64 ≡ Some far
      → r ≡ result_and (opening_verdict h day) (Err (BookedBench far))
      → (r ≡ write_sheet whole (length out)) × (out ≡ output r whole out)
  unfolding writer_verdict
  sheet_far {far} {r} e w =
      let (x, at, inside, first) = numbers_first booked 64 e in
      let long : length day ≡ 64 =
      ap length p ∙ length-take 64 (numbers_of booked) ∙ omega (arith, length-numbers_of booked, at, inside) in
      let (f, and, then) = fault_then (opening_verdict h day) (BookedBench far) in
      let opening : opening_verdict h (numbers_of booked) ≡ Err f =
      ap (opening_verdict h) (sym in_two)
      ∙ far_refused h day (drop 64 (numbers_of booked)) x long first.inside first.zeros first.some
      ∙ ap (λ (b : ℕ). and_then (opening_verdict h day) (Err (BookedBench b))) (sym at)
      ∙ then in
      let refused : writer_verdict whole ≡ Err f = rw opening in
      (w ∙ and ∙ sym (write_refused whole (length out) f refused), sym (output-refused r f whole out (w ∙ and)))
