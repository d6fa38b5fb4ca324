-- The board of a day whose rocks were peeled is sound.
--     bound_sum, small-sum, limit-sum     B, R and P as sums of pT and rT, where q = p + r
--     share_times      7p ≥ 4q makes 4rT ≤ 3pT
--     heavy-weight     a heavy job weighs more than B − P
--     light-weight     a light one at most B − P
--     job_fits         a job of at most T minutes weighs at most R + d
--     board_sound      so the board of the start, and of every state with the same rocks left, is sound: with d = (q − p)T it has
--                      B = 2R + d, P = R + 3d and 6d ≤ R
use Prim.Native.Nat.{ℕ, ◌+◌, ◌-◌, ◌*◌, ◌≤◌, ◌<◌}
use mathlib.Core.Path.{◌≡◌, ap}
use mathlib.Core.Bool.{true, false, not}
use native.Mathlib.Omega.{arith}
use native.Mathlib.Nat.{mul-le-mul_left, mul-le-mul_right}
use lib.ListN.{get_or}
use lib.Dec.{leb}
use borrow.Author.Tests.{ltb-true, ltb-false}
use Rattle.bools.proofs.BoolLaws.{and_left, not-true}
use Rattle.day.specs.Day.{Day, choices, heavy, pebble, bound}
use Rattle.algorithm.specs.Rocks.{rock, weight, small, limit}
use Rattle.algorithm.specs.Start.{State, start}
use Rattle.algorithm.specs.Run.{board_of}
use Rattle.algorithm.specs.Properties.{SoundBoard}
use Rattle.algorithm.specs.SoundDay.{SoundDay}
use Rattle.algorithm.proofs.RockLaws.{rock-heavy, low_below_high, high_below}
use Rattle.algorithm.proofs.Peeling.{start-peeled}

module _ (d : Day) (sound : SoundDay d) where
  -- With q = p + r all limits are sums of pT and rT.
  module _ (r : ℕ) (q-is : d.q ≡ d.p + r) where
    bound_sum : bound d ≡ 6 * (d.p * d.target) + 5 * (r * d.target)
    bound_sum = rw q-is (omega arith)

    small-sum : small d ≡ 3 * (d.p * d.target) + 2 * (r * d.target)
    small-sum = rw q-is (omega arith)

    limit-sum : limit d ≡ 3 * (d.p * d.target) + 5 * (r * d.target)
    limit-sum =
        let e : 5 * d.q - 2 * d.p ≡ 3 * d.p + 5 * r = omega arith in
        omega (arith, ap (λ (k : ℕ). k * d.target) e)

    share_times : 4 * (r * d.target) ≤ 3 * (d.p * d.target)
    share_times = omega (arith, mul-le-mul_right d.target share)
      where
        share : 4 * r ≤ 3 * d.p
        share = omega (arith, sound.share)

  abbrev gap : ℕ
  gap = d.q - d.p

  gap_is : d.q ≡ d.p + gap
  gap_is = omega (arith, sound.below_one)

  pub heavy-weight : (j : ℕ) → heavy d j ≡ true → bound d < limit d + weight d j
  heavy-weight j p = omega (arith, bound_sum gap gap_is, limit-sum gap gap_is, ltb-true (d.p * d.target) (d.q * d.minutes j) p)

  pub light-weight : (j : ℕ) → heavy d j ≡ false → limit d + weight d j ≤ bound d
  light-weight j p = omega (arith, bound_sum gap gap_is, limit-sum gap gap_is, ltb-false (d.p * d.target) (d.q * d.minutes j) p)

  pub job_fits : (j : ℕ) → j < d.jobs → weight d j ≤ small d + gap * d.target
  job_fits j h = omega (arith, small-sum gap gap_is, mul-le-mul_left d.q (sound.fits j h), ap (λ (k : ℕ). k * d.target) gap_is)

  pub board_sound : (s : State) → s.left ≡ (start d).left → ((j : ℕ) → j < d.jobs → pebble d j ≡ true → d.allows j (get_or s.place j 0) ≡ true)
      → SoundBoard (board_of d s)
  board_sound s same places =
      record {
        limits =
            record {
              d = gap * d.target;
              bound_is = omega (arith, bound_sum gap gap_is, small-sum gap gap_is);
              limit_is = omega (arith, limit-sum gap gap_is, small-sum gap gap_is);
              share = omega (arith, small-sum gap gap_is, share_times gap gap_is);
            };
        ends_differ = λ j h l. low_below_high d j (left-rock j h l);
        ends_below = λ j h l. high_below d j (left-rock j h l);
        rock_heavy = λ j h l. heavy-weight j (rock-heavy d j (left-rock j h l));
        rock_fits = λ j h l. job_fits j h;
        pebble_light = λ j h p. light-weight j (not-true (heavy d j) (and_left (not (heavy d j)) (leb 2 (choices d j)) p));
        pebble_allowed = places;
        allowed_below = λ j v h a. sound.allowed_below j v a;
      }
    where
      left-rock : (j : ℕ) → j < d.jobs → get_or s.left j false ≡ true → rock d j ≡ true
      left-rock j h l = (start-peeled d sound).left_rock j h (rw same at l)
