-- The arrays, the candidates and the neutral rocks follow the outer loop (ForcedLoops).
use Prim.Native.Nat.{◌+◌, ◌-◌}
use native.Mathlib.Omega.{arith}
use Rattle.forced.proofs.ForcedLoops.{outer_sets_next, outer_sets_ends, outer_sets_spent}
use Rattle.forced.proofs.forced.force.Goals as goal

pub returns-in_default : goal.returns-in_default
returns-in_default c = λ b dirs G N C S.
    let O = c.loop.invariant b dirs G N C S in
    outer_sets_ends b c.args.n _ _ _ G.rocks _ G.few_rocks G.maps.incidence dirs c.args.dir.now O
    (c.in_default.ensures c.args.n c.loop.dir G.maps.incidence O.free)

pub loop-preserved : goal.loop-preserved
loop-preserved c = λ b dirs G N C S.
    let O = c.loop.invariant b dirs G N C S in
    let (bench, rock, left) = c.in-Some.ensures c.args.n c.loop.dir G.maps.incidence O.free in
    let (at, d, l, benches, neutral) = c.direct-u.ensures in
    outer_sets_next b c.args.n _ _ _ G.rocks _ G.few_rocks G.maps.incidence dirs c.args.dir.now O _ _ c.direct-u.result
    c.in-Some.f.left _ _ _ _ _ (c.args.n.jobs - (c.loop.counter + 1)) c.direct-u.new.dir c.direct-u.new.load bench rock
    left (omega arith) at d l benches neutral
    (λ x free but far shown. c.force_marked-left.ensures b x G free but far shown)

pub returns-after-loop : goal.returns-after-loop
returns-after-loop c = λ b dirs G N C S.
    outer_sets_spent b c.args.n _ _ _ G.rocks _ G.few_rocks G.maps.incidence dirs c.args.dir.now
    (c.loop.invariant b dirs G N C S) (omega arith)
