-- The entries of the benches passed are known (BalanceRun).
use Prim.Native.Nat.{ℕ, ◌≤◌, ◌<◌}
use mathlib.Core.Path.{◌≡◌}
use lib.ListN.{length, get_or}
use Rattle.day.specs.Day.{Day}
use Rattle.rocks.specs.declared.balancing.Balance.TheVariants.{Unknown}
use Rattle.rocks.specs.DayArrays.{DayRocks, BalancesTo}
use Rattle.rocks.proofs.components.balances.Given as goal

abbrev pub invariant-loop-v : goal.invariant-loop-v
invariant-loop-v g l =
    (d : Day) → DayRocks d l.n l.low l.high → d.benches ≤ length l.initial.balance
    → ((u : ℕ) → u < d.benches → get_or l.initial.balance u g.S.Entry.blank ≡ g.S.Standing.entry Unknown)
    → BalancesTo g.S.Standing.entry g.S.Entry.blank d l.v l.balance
