-- The packed fields of headers and bodies as digits of big-endian numbers, as the program computes them.
--     version_digits, kind_digits, length_digits        of the header's three bytes
--     benches_digits, p_digits, q_digits, target_digits, head_spare_digits   of the head's seven bytes
--     minutes_digits, allowed_digits, job_spare_digits   of the job's first eight bytes and its last three
--     bench_digits, booked_digits, booking_spare_digits     of the booking's four bytes
--     head_digits_lem, job_digits_lem, booking_digits_lem  the whole head, the whole job, the whole booking
use Prim.Native.Nat.{ℕ, ◌+◌, ◌*◌, ◌/◌, ◌%◌}
use mathlib.Core.Path.{◌≡◌, sym, ap, ◌∙◌}
use mathlib.Core.List.{List}
use native.Mathlib.Nat.{div-one}
use lib.ListN.{drop}
use lib.Dec.{lit≤}
use Rattle.bits.specs.Bits.{Bytes, bits, big}
use Rattle.bits.specs.Layout.{field}
use Rattle.bits.proofs.BitsLaws.{bits-big, bits-split, bits-drop, Bytes-drop}
use Rattle.fields.specs.declared.sheet.Booking.{Booking}
use Rattle.fields.specs.declared.sheet.Head.{Head}
use Rattle.fields.specs.declared.sheet.Job.{Job}
use Rattle.fields.specs.Format.{version_of, kind_of, length_of, head_layout, job_layout, head_of, job_of}
use Rattle.fields.specs.Format.{booking_layout, booking_of}

module _ (s : List ℕ) (ok : Bytes s) where
  pub version_digits : big s 3 / 1048576 % 16 ≡ version_of s
  version_digits = sym (bits-big s 3 0 4 ok (lit≤ tt))

  pub kind_digits : big s 3 / 65536 % 16 ≡ kind_of s
  kind_digits = sym (bits-big s 3 4 4 ok (lit≤ tt))

  pub length_digits : big s 3 % 65536 ≡ length_of s
  length_digits = ap (λ (n : ℕ). n % 65536) (sym (div-one (big s 3))) ∙ sym (bits-big s 3 8 16 ok (lit≤ tt))

  pub benches_digits : big s 7 / 562949953421312 % 128 ≡ field head_layout 0 s
  benches_digits = sym (bits-big s 7 0 7 ok (lit≤ tt))

  pub p_digits : big s 7 / 4398046511104 % 128 ≡ field head_layout 1 s
  p_digits = sym (bits-big s 7 7 7 ok (lit≤ tt))

  pub q_digits : big s 7 / 34359738368 % 128 ≡ field head_layout 2 s
  q_digits = sym (bits-big s 7 14 7 ok (lit≤ tt))

  pub target_digits : big s 7 / 32 % 1073741824 ≡ field head_layout 3 s
  target_digits = sym (bits-big s 7 21 30 ok (lit≤ tt))

  abbrev pub head_digits : Head
  head_digits =
      record {
        benches = big s 7 / 562949953421312 % 128;
        p = big s 7 / 4398046511104 % 128;
        q = big s 7 / 34359738368 % 128;
        target = big s 7 / 32 % 1073741824;
      }

  pub head_digits_lem : head_digits ≡ head_of s
  head_digits_lem = rw (benches_digits, p_digits, q_digits, target_digits)

  pub head_spare_digits : big s 7 % 32 ≡ field head_layout 4 s
  head_spare_digits = ap (λ (n : ℕ). n % 32) (sym (div-one (big s 7))) ∙ sym (bits-big s 7 51 5 ok (lit≤ tt))

  pub minutes_digits : big s 8 / 17592186044416 % 1048576 ≡ field job_layout 0 s
  minutes_digits = sym (bits-big s 8 0 20 ok (lit≤ tt))

  -- The benches allowed straddle the eight bytes and the three behind them.
  high_allowed : big s 8 % 17592186044416 ≡ bits s 20 44
  high_allowed = ap (λ (n : ℕ). n % 17592186044416) (sym (div-one (big s 8))) ∙ sym (bits-big s 8 20 44 ok (lit≤ tt))

  low_allowed : big (drop 8 s) 3 / 16 % 1048576 ≡ bits s 64 20
  low_allowed = sym (bits-big (drop 8 s) 3 0 20 (Bytes-drop s 8 ok) (lit≤ tt)) ∙ bits-drop s 8 0 20

  pub allowed_digits : big s 8 % 17592186044416 * 1048576 + big (drop 8 s) 3 / 16 % 1048576 ≡ field job_layout 1 s
  allowed_digits = rw (high_allowed, low_allowed) (sym (bits-split s 20 44 20))

  abbrev pub job_digits : Job
  job_digits =
      record {
        minutes = big s 8 / 17592186044416 % 1048576;
        allowed = big s 8 % 17592186044416 * 1048576 + big (drop 8 s) 3 / 16 % 1048576;
      }

  pub job_digits_lem : job_digits ≡ job_of s
  job_digits_lem = rw (minutes_digits, allowed_digits)

  pub job_spare_digits : big (drop 8 s) 3 % 16 ≡ field job_layout 2 s
  job_spare_digits =
      ap (λ (n : ℕ). n % 16) (sym (div-one (big (drop 8 s) 3)))
      ∙ sym (bits-big (drop 8 s) 3 20 4 (Bytes-drop s 8 ok) (lit≤ tt))
      ∙ bits-drop s 8 20 4

  pub bench_digits : big s 4 / 67108864 % 64 ≡ field booking_layout 0 s
  bench_digits = sym (bits-big s 4 0 6 ok (lit≤ tt))

  pub booked_digits : big s 4 / 64 % 1048576 ≡ field booking_layout 1 s
  booked_digits = sym (bits-big s 4 6 20 ok (lit≤ tt))

  abbrev pub booking_digits : Booking
  booking_digits = record { bench = big s 4 / 67108864 % 64; minutes = big s 4 / 64 % 1048576 }

  pub booking_digits_lem : booking_digits ≡ booking_of s
  booking_digits_lem = rw (bench_digits, booked_digits)

  pub booking_spare_digits : big s 4 % 64 ≡ field booking_layout 2 s
  booking_spare_digits = ap (λ (n : ℕ). n % 64) (sym (div-one (big s 4))) ∙ sym (bits-big s 4 26 6 ok (lit≤ tt))
