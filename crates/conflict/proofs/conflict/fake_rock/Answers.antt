-- The lowest rock that is at v and neutral (NeutralLaws).
use Prim.Native.Nat.{ℕ}
use mathlib.Core.Path.{sym, subst, ◌∙◌}
use lib.ListN.{get_or}
use lib.Dec.{eqb}
use Rattle.bools.proofs.BoolLaws.{and-false_right}
use Rattle.conflict.specs.ConflictArrays.{fake_at}
use Rattle.forced.proofs.NeutralLaws.{BothOf}
use Rattle.conflict.proofs.ConflictLoops.{fake_lowest, fake_none, rock_out}
use Rattle.rock_graph.specs.Graph.{incidents, lows, highs}
use Rattle.conflict.proofs.conflict.fake_rock.Goals as goal

pub returns-then-not-within : goal.returns-then-not-within
returns-then-not-within c = λ n dir H N hv.
    rock_out (incidents c.args.graph.now) (fake_at c.args.benches dir c.args.joined.now) c.args.v
    (λ r. and-false_right (eqb (get_or dir r 0) 0) (sym c.within.ensures ∙ c.if-not-within.true))

pub returns-then-r-lt64 : goal.returns-then-r-lt64
returns-then-r-lt64 c = λ n dir H N hv.
    fake_lowest n (lows c.args.graph.now) (highs c.args.graph.now) dir (incidents c.args.graph.now) c.args.neutral H N
    c.args.v hv c.common.result
    (subst (λ (x : ℕ). BothOf c.common.result x c.args.neutral) c.incident.ensures c.common.ensures) c.args.benches
    c.args.joined.now (sym c.within.ensures ∙ c.if-not-within.false) c.lowest-r.result c.lowest-r.ensures
    c.if-r-lt64.true

pub returns-else-r-lt64 : goal.returns-else-r-lt64
returns-else-r-lt64 c = λ n dir H N hv.
    fake_none n (lows c.args.graph.now) (highs c.args.graph.now) dir (incidents c.args.graph.now) c.args.neutral H N
    c.args.v hv c.common.result
    (subst (λ (x : ℕ). BothOf c.common.result x c.args.neutral) c.incident.ensures c.common.ensures) c.args.benches
    c.args.joined.now (sym c.within.ensures ∙ c.if-not-within.false) c.lowest-r.result c.lowest-r.ensures
    c.if-r-lt64.false
