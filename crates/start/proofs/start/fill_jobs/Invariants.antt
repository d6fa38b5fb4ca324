-- The entries passed are what the rule says.
use Prim.Native.Nat.{ℕ, ◌<◌}
use mathlib.Core.Path.{◌≡◌}
use Rattle.arrays.specs.Arrays.{filled}
use Rattle.start.proofs.start.fill_jobs.Given as goal

abbrev pub invariant-loop-j : goal.invariant-loop-j
invariant-loop-j g l = (f : ℕ → _) → ((j : ℕ) (x : _) → j < l.jobs → goal.F-post g l.rule j x → x ≡ f j) → l.table ≡ filled l.j f l.initial.table
