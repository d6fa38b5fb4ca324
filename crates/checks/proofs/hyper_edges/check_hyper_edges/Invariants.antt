-- `check_hyper_edges`: no job passed has fault 12; the number of set bits is the number of benches allowed (HyperEdges).
use Prim.Native.Nat.{ℕ, ◌<◌}
use mathlib.Core.Path.{◌≡◌}
use mathlib.Core.Bool.{false}
use Rattle.fields.specs.Tests.{heavy_hyper_edge}
use Rattle.checks.proofs.HyperEdges.{table_job}
use Rattle.checks.proofs.hyper_edges.check_hyper_edges.Given as goal

abbrev pub invariant-loop-n : goal.invariant-loop-n
invariant-loop-n l =
    (k : ℕ) → k < l.n → heavy_hyper_edge l.h l.w (table_job l.minutes l.allowed k) ≡ false
