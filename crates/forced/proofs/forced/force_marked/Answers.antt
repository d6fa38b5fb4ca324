-- The arrays, the candidates and the neutral rocks follow the inner loop (ForcedLoops).
use Prim.Native.Nat.{◌+◌, ◌-◌}
use native.Mathlib.Omega.{arith}
use Rattle.forced.proofs.ForcedLoops.{inner-sets_start, inner-sets_next, inner-sets_ends, inner-sets_spent}
use Rattle.forced.proofs.forced.force_marked.Goals as goal

pub loop-init : goal.loop-init
loop-init c = λ b dirs G N C h S.
    inner-sets_start b c.args.n _ _ _ G.rocks _ G.few_rocks G.maps.incidence dirs c.args.first c.args.watch
    c.args.dir.now c.args.changed.now.benches (c.args.n.jobs - 0) c.with-cand.result c.args.changed.now.neutral S
    (omega arith) h c.with-cand.ensures N C

pub returns-in_default : goal.returns-in_default
returns-in_default c = λ b dirs G N C h S.
    let I = c.loop.invariant b dirs G N C h S in
    inner-sets_ends b c.args.n _ _ _ G.rocks _ G.few_rocks G.maps.incidence dirs c.args.first c.args.watch
    c.args.dir.now c.args.changed.now.benches I (c.in_default.ensures c.args.n c.loop.dir G.maps.incidence I.free)

pub loop-preserved : goal.loop-preserved
loop-preserved c = λ b dirs G N C h S.
    let I = c.loop.invariant b dirs G N C h S in
    let (bench, rock, left) = c.in-Some.ensures c.args.n c.loop.dir G.maps.incidence I.free in
    let (at, d, l, benches, neutral) = c.direct-u.ensures in
    inner-sets_next b c.args.n _ _ _ G.rocks _ G.few_rocks G.maps.incidence dirs c.args.first c.args.watch
    c.args.dir.now c.args.changed.now.benches I _ _ c.direct-u.result c.in-Some.f.left c.with-cand-in-loop.result _ _
    (c.args.n.jobs - (c.loop.counter + 1)) bench rock left (omega arith) at d l benches neutral
    c.with-cand-in-loop.ensures

pub returns : goal.returns
returns c = λ b dirs G N C h S.
    inner-sets_spent b c.args.n _ _ _ G.rocks _ G.few_rocks G.maps.incidence dirs c.args.first c.args.watch
    c.args.dir.now c.args.changed.now.benches (c.loop.invariant b dirs G N C h S) (omega arith)
