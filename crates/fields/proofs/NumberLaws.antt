-- The numbers of the faults are 1 to 18.
--     number_positive, number_small
--     booking_numbers     the tests of a booking are 14 and 15, in this order, each with the place that they are given
use Prim.Native.Nat.{ℕ, ◌≤◌, ◌<◌}
use mathlib.Core.Path.{◌≡◌, refl}
use mathlib.Core.Bool.{Bool}
use mathlib.Core.List.{[], ◌∷◌, map}
use native.Mathlib.Omega.{arith}
use Rattle.fields.specs.declared.fault.Fault.{Fault}
use Rattle.fields.specs.declared.fault.Fault.TheVariants.{TooLong, Truncated, UnknownKind, Misplaced}
use Rattle.fields.specs.declared.fault.Fault.TheVariants.{WrongLength, SpareBit, BenchCount, Share, JobCount}
use Rattle.fields.specs.declared.fault.Fault.TheVariants.{Minutes, Allowed, HeavyHyperEdge, Table}
use Rattle.fields.specs.declared.fault.Fault.TheVariants.{BookedBench, BookedTwice, PlaceCount, SetBench, SharedBench}
use Rattle.fields.specs.declared.sheet.Booking.{Booking}
use Rattle.fields.specs.Numbers.{number_of, place_of}
use Rattle.fields.specs.Tests.{Test, booking_faults}

pub number_positive : (f : Fault) → 0 < number_of f
number_positive TooLong = omega arith
number_positive (Truncated at) = omega arith
number_positive (UnknownKind at) = omega arith
number_positive (Misplaced at) = omega arith
number_positive (WrongLength at) = omega arith
number_positive (SpareBit at) = omega arith
number_positive (BenchCount at) = omega arith
number_positive (Share at) = omega arith
number_positive (JobCount at) = omega arith
number_positive (Minutes at) = omega arith
number_positive (Allowed at) = omega arith
number_positive (HeavyHyperEdge job) = omega arith
number_positive (Table at) = omega arith
number_positive (BookedBench at) = omega arith
number_positive (BookedTwice at) = omega arith
number_positive PlaceCount = omega arith
number_positive (SetBench at) = omega arith
number_positive (SharedBench set) = omega arith

pub number_small : (f : Fault) → number_of f ≤ 18
number_small TooLong = omega arith
number_small (Truncated at) = omega arith
number_small (UnknownKind at) = omega arith
number_small (Misplaced at) = omega arith
number_small (WrongLength at) = omega arith
number_small (SpareBit at) = omega arith
number_small (BenchCount at) = omega arith
number_small (Share at) = omega arith
number_small (JobCount at) = omega arith
number_small (Minutes at) = omega arith
number_small (Allowed at) = omega arith
number_small (HeavyHyperEdge job) = omega arith
number_small (Table at) = omega arith
number_small (BookedBench at) = omega arith
number_small (BookedTwice at) = omega arith
number_small PlaceCount = omega arith
number_small (SetBench at) = omega arith
number_small (SharedBench set) = omega arith

module _ (m : ℕ) (had : ℕ → Bool) (b : Booking) (at : ℕ) where
  pub booking_numbers : (map (λ (t : Test). number_of t.fault) (booking_faults m had b at) ≡ 14 ∷ 15 ∷ [])
      × (map (λ (t : Test). place_of t.fault) (booking_faults m had b at) ≡ at ∷ at ∷ [])
  booking_numbers = (refl, refl)
