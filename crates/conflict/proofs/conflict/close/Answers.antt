-- The array and the sets show a state from which the rest of the loop gives what it gives from the start (ConflictLoops).
use Prim.Native.Nat.{◌+◌, ◌-◌}
use native.Mathlib.Omega.{arith}
use Rattle.conflict.proofs.ConflictLoops.{closes_goes_on, closes_ends, closes_spent}
use Rattle.rock_graph.specs.Graph.{ends}
use Rattle.conflict.proofs.conflict.close.Goals as goal

pub returns-in_default : goal.returns-in_default
returns-in_default c = λ b dirs xs G hi C D X.
    closes_ends b c.args.n _ _ _ G.rocks G.few_rocks _ G.maps.incidence c.args.i dirs xs c.args.dir.now
    c.args.joined.now hi D X (c.loop.invariant b dirs xs G hi C D X) c.in_default.ensures

pub loop-preserved : goal.loop-preserved
loop-preserved c = λ b dirs xs G hi C D X.
    closes_goes_on b c.args.n _ _ _ G.rocks G.few_rocks _ G.maps.incidence c.args.i dirs xs c.args.dir.now
    c.args.joined.now hi D X (c.loop.invariant b dirs xs G hi C D X) (ends c.args.graph.now) G.maps.other_ends
    c.in-Some.v (c.args.n.benches - (c.loop.counter + 1)) c.in-Some.ensures (omega arith) c.put.ensures c.above.result
    c.neighbours.result c.with-grown.result c.with-grown.ensures c.above.ensures c.neighbours.ensures

pub returns-after-loop : goal.returns-after-loop
returns-after-loop c = λ b dirs xs G hi C D X.
    closes_spent b c.args.n _ _ _ G.rocks G.few_rocks _ G.maps.incidence c.args.i dirs xs c.args.dir.now
    c.args.joined.now hi D X (c.loop.invariant b dirs xs G hi C D X) (omega arith)
