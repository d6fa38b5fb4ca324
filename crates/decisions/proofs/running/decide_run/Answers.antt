-- The start, the rocks that are left, the turns, and the decision at the last state (FinishRun).
use Prim.Native.Nat.{ℕ, ◌≤◌}
use mathlib.Core.Path.{◌≡◌, refl}
use native.Mathlib.Omega.{arith}
use lib.ListN.{length, replicate, length-replicate}
use Rattle.rocks.specs.declared.rocks.Limits.{Limits}
use Rattle.decisions.proofs.DayRun.{budget-is}
use Rattle.decisions.proofs.FinishRun.{ready}
use borrow.Author.Rules.{rules}
use Rattle.decisions.proofs.running.decide_run.Goals as goal

pub returns : goal.returns
returns g c d minutes B =
    let n = c.args.n in
    let allowed = c.args.allowed.now in
    let amount = c.args.amount.now in
    let pebble = c.args.pebble.now in
    let sixty-four = length-replicate {A = ℕ} 64 0 in
    let room : 64 ≤ length (replicate {A = ℕ} 64 0) = omega (arith, sixty-four) in
    let left-room : length c.args.rock ≡ 512 = search rules in
    let own_room : length c.args.burden ≡ 64 = search rules in
    let F = B.fields in
    let S = B.sparse_day in
    let D = S.day_rocks in
    let begun = c.start-first.ensures.started d minutes B (record {
      left_room = left-room;
      place_room = length-replicate {A = ℕ} 512 0;
      own_room = own_room;
      unreached = refl;
    }) in
    let m : Limits = record {
      benches = n.benches;
      jobs = n.jobs;
      rocks = c.gather-rocks.result;
      bound = n.bound;
      small = n.small;
      limit = n.limit;
    } in
    let (R, mine) = ready d n m minutes allowed F D.sound S.sparse _ _ begun.1 _ _ _ amount _ (replicate 64 0)
    (replicate 64 0) (replicate 64 0) (replicate 64 0) pebble D.benches D.jobs S.bounds S.smalls S.limits
    c.gather-rocks.ensures.0 room room room room c.gather-rocks.ensures.1 c.gather-rocks.ensures.2 c.gather-rocks.ensures.3
    c.pick.ensures B.amounts B.pebbly in
    let fuel = budget-is d n.jobs n.benches minutes allowed F D.benches pebble B.pebbly c.count.ensures
    c.times-budget.ensures in
    let L = c.turns-last.ensures d R begun.0 sixty-four fuel in
    c.finish.ensures d _ amount pebble allowed R mine L S.short S.sparse
