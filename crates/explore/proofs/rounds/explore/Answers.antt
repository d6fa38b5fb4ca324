-- The arrays show a state from which the rounds that are left give what the exploration gives (ExploreSets).
use Prim.Native.Nat.{◌+◌}
use native.Mathlib.Omega.{arith}
use lib.ListN.{replicate}
use Rattle.algorithm.specs.Board.{Board}
use Rattle.rocks.specs.BoardArrays.{Owned}
use Rattle.forced.specs.SetArrays.{forces_at}
use Rattle.forced.proofs.NeutralLaws.{neutral_starts}
use Rattle.explore.proofs.RoundRun.{seen_none}
use Rattle.explore.specs.ExploreArrays.{Reaches}
use Rattle.explore.proofs.ExploreSets.{Exploration, covers_touched, exploration_starts, exploration_goes_on, exploration_ends, exploration_spent}
use Rattle.rock_graph.specs.Graph.{ends, weights, RockGraph}
use Rattle.explore.proofs.rounds.explore.Goals.{After-either-active}
use Rattle.explore.proofs.rounds.explore.Goals as goal

-- The state after a round.
next : (c : After-either-active) (b : Board) (G : RockGraph b c.args.n c.args.graph.now) → Owned b c.args.own.now
    → Reaches b c.args.reach.now
    → Exploration b c.args.n _ _ _ G.rocks c.loop-i.i c.args.graph.now.every_bench c.loop-i.dir c.loop-i.load c.loop-i.joined
    c.loop-i.level c.loop-i.neutral c.loop-i.active c.loop-i.fresh c.loop-i.wait
    → Exploration b c.args.n _ _ _ G.rocks (c.loop-i.i + 1) c.args.graph.now.every_bench c.construct-grown.new.dir
    c.construct-grown.new.load c.construct-grown.new.joined c.activate-wait.new.level c.construct-grown.result.neutral
    c.either-active.result c.either-fresh.result c.activate-wait.result
next c b G O T E =
    exploration_goes_on b c.args.n _ _ _ G.rocks c.less-rest.result T E (omega arith)
    c.less-rest.ensures c.reach_of-reached.ensures (record {
      opens = c.open_round-opened.ensures.0;
      entered = c.open_round-opened.ensures.1;
      raised = c.open_round-opened.ensures.2;
      long_joined = c.open_round-opened.auto.joined;
      long_level = c.open_round-opened.auto.level;
    }) G.few_rocks (ends c.args.graph.now) c.args.graph.now.touched c.neighbours_of-cand.result c.common.result
    c.construct-grown.result.benches c.construct-grown.result.neutral c.either.result c.less.result c.common-asked.result
    c.activate-wait.result c.less-in-loop-i.result c.either-fresh.result c.either-active.result c.construct-grown.new.dir
    c.construct-grown.new.load c.construct-grown.new.joined c.activate-wait.new.level G.maps.other_ends
    G.maps.touched c.neighbours_of-cand.ensures c.common.ensures
    (λ dirs xs t free C F L S X.
    let B = c.construct-grown.ensures b dirs xs G
    (record { round = t; seen = S; joined = X; unforced = L; free = free; joins = C; fakes = F }) in
    (B.0, B.1, B.2.joined_all, B.2.faked_all, B.2.unforced, B.2.free)) c.either.ensures c.less.ensures
    c.common-asked.ensures c.activate-wait.ensures.0
    (λ dirs xs ys t W D X Y. c.activate-wait.ensures.1 b dirs xs ys G t W O D X Y) c.less-in-loop-i.ensures
    c.either-fresh.ensures c.either-active.ensures c.if-opened-eq0.false c.open_round-opened.type_inv
    c.construct-grown.auto.joined c.activate-wait.auto.level

pub loop-i-init : goal.loop-i-init
loop-i-init c = λ b G O T S N A j k.
    exploration_starts b c.args.n _ _ _ G.rocks 64 c.args.graph.now.every_bench c.force-f.result.neutral G.rocks.few_benches S
    N A G.maps.benches j k

pub loop-i-preserved : goal.loop-i-preserved
loop-i-preserved c = λ b G O T S N A j k.
    next (goal.at.loop-i-preserved c).After-either-active b G O T (c.loop-i.invariant b G O T S N A j k)

pub returns-then-opened-eq0 : goal.returns-then-opened-eq0
returns-then-opened-eq0 c = λ b G O T Z.
    let forced = c.force-f.ensures b (replicate b.jobs 0) G
    (neutral_starts c.args.n c.args.dir.now c.args.graph.now.every_rock
    G.maps.rocks Z.undirected)
    (covers_touched b c.args.n _ _ _ G.rocks
    (forces_at c.args.n.bound (weights c.args.graph.now) c.args.dir.now c.args.load.now) c.args.graph.now.touched
    G.few_rocks G.maps.touched)
    (seen_none b c.args.n _ _ _ G.rocks 64 c.args.own.now G.few_rocks (omega (arith, Z.own_room, G.rocks.few_benches)) O
    Z.undirected Z.unloaded) in
    exploration_ends b c.args.n _ _ _ G.rocks c.less-rest.result T
    (c.loop-i.invariant b G O T forced.0 forced.2 forced.3 Z.never_joined Z.never_active) (omega arith)
    c.less-rest.ensures c.reach_of-reached.ensures (record {
      opens = c.open_round-opened.ensures.0;
      entered = c.open_round-opened.ensures.1;
      raised = c.open_round-opened.ensures.2;
      long_joined = c.open_round-opened.auto.joined;
      long_level = c.open_round-opened.auto.level;
    }) c.if-opened-eq0.true

pub returns-else-opened-eq0 : goal.returns-else-opened-eq0
returns-else-opened-eq0 c = λ b G O T Z.
    let forced = c.force-f.ensures b (replicate b.jobs 0) G
    (neutral_starts c.args.n c.args.dir.now c.args.graph.now.every_rock
    G.maps.rocks Z.undirected)
    (covers_touched b c.args.n _ _ _ G.rocks
    (forces_at c.args.n.bound (weights c.args.graph.now) c.args.dir.now c.args.load.now) c.args.graph.now.touched
    G.few_rocks G.maps.touched)
    (seen_none b c.args.n _ _ _ G.rocks 64 c.args.own.now G.few_rocks (omega (arith, Z.own_room, G.rocks.few_benches)) O
    Z.undirected Z.unloaded) in
    exploration_spent b c.args.n _ _ _ G.rocks (next (goal.at.returns-else-opened-eq0 c).After-either-active b G O T
    (c.loop-i.invariant b G O T forced.0 forced.2 forced.3 Z.never_joined Z.never_active)) (omega arith)
