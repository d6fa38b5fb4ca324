-- The arrays and the sets show a state from which the rest of the loop gives what it gives from the start (ConflictLoops).
use Prim.Native.Nat.{◌+◌, ◌-◌}
use mathlib.Core.Path.{refl}
use native.Mathlib.Omega.{arith}
use Rattle.conflict.proofs.ConflictLoops.{builds_starts, builds_goes_on, builds_ends, builds_spent}
use Rattle.conflict.proofs.conflict.construct.Goals as goal

pub loop-init : goal.loop-init
loop-init c = λ b dirs xs G P.
    builds_starts b c.args.n _ _ _ G.rocks G.few_rocks _ G.maps.incidence c.args.i dirs xs c.args.joined.now
    (c.args.n.jobs - 0) c.args.cand c.args.fakes 0 c.args.neutral (omega arith) P.free P.joins P.fakes P.unforced P.seen
    P.joined

pub returns-in_default : goal.returns-in_default
returns-in_default c = λ b dirs xs G P.
    let now-is = c.loop.invariant b dirs xs G P in
    let E = builds_ends b c.args.n _ _ _ G.rocks G.few_rocks _ G.maps.incidence now-is _ c.close-more.result
    (c.close-more.ensures b now-is.building.now_dirs now-is.building.now_xs G P.round now-is.joining
    now-is.building.seen.directed now-is.building.rounds)
    (c.in_default.ensures c.args.n c.loop.dir G.maps.incidence now-is.free) in
    (E.0, E.1, record { joined_all = E.2; faked_all = E.3; unforced = E.4; free = E.5 })

pub loop-preserved : goal.loop-preserved
loop-preserved c = λ b dirs xs G P.
    let now-is = c.loop.invariant b dirs xs G P in
    let (bench, rock) = c.in-Some.ensures c.args.n c.loop.dir G.maps.incidence now-is.free in
    let (at, d, l) = c.direct-u.ensures in
    builds_goes_on b c.args.n _ _ _ G.rocks G.few_rocks _ G.maps.incidence now-is _ c.close-more.result
    (c.close-more.ensures b now-is.building.now_dirs now-is.building.now_xs G P.round now-is.joining
    now-is.building.seen.directed now-is.building.rounds) c.in-Some.fake.bench bench c.in-Some.fake.rock
    c.direct-u.result rock at 0 c.with-in-loop.result c.above.result c.with-faking.result c.force-forced.result.benches
    c.with.result c.less-rest.result c.force-forced.result.neutral (c.args.n.jobs - (c.loop.counter + 1)) (omega arith)
    refl c.with-in-loop.ensures d l c.with.ensures c.less-rest.ensures
    (λ x free W Y. c.force-forced.ensures b x G free W Y) c.above.ensures c.with-faking.ensures

pub returns : goal.returns
returns c = λ b dirs xs G P.
    let now-is = c.loop.invariant b dirs xs G P in
    let E = builds_spent b c.args.n _ _ _ G.rocks G.few_rocks _ G.maps.incidence now-is _ c.close-more-2.result
    (c.close-more-2.ensures b now-is.building.now_dirs now-is.building.now_xs G P.round now-is.joining
    now-is.building.seen.directed now-is.building.rounds) (omega arith) in
    (E.0, E.1, record { joined_all = E.2; faked_all = E.3; unforced = E.4; free = E.5 })
