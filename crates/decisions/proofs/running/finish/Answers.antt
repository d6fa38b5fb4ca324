-- By whether a bench is activated at the last state (FinishRun).
use Rattle.algorithm.specs.Run.{board_of, explored}
use Rattle.decisions.proofs.FinishRun.{last_rocks, settled_places, finish_none, finish_plan}
use Rattle.decisions.proofs.running.finish.Goals as goal

pub returns-then-last-ne0 : goal.returns-then-last-ne0
returns-then-last-ne0 c d weights amount pebbles allowed R jobs-are L short sparse =
    rw c.without_places.ensures
    (finish_none d c.args.n c.args.low.now c.args.high.now weights amount pebbles allowed R
    c.args.last _ _ L short sparse c.if-last-ne0.true)

pub returns : goal.returns
returns c d weights amount pebbles allowed R jobs-are L short sparse =
    let n = c.args.n in
    let low = c.args.low.now in
    let high = c.args.high.now in
    let last = c.args.last in
    let rocks = last_rocks d n low high weights amount pebbles allowed R last _ _ L in
    let settled = c.settle.ensures (board_of d L.state) weights (explored d L.state).dir rocks L.directed in
    finish_plan d n low high weights amount pebbles allowed R last _ _ L short sparse _ c.if-last-ne0.false
    (settled_places d n low high weights amount pebbles allowed R last _ _ L c.args.job.now _ _ jobs-are settled
    c.place_rocks.ensures)
