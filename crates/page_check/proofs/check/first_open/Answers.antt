-- What the loop keeps is Passing of PageRun.
use Rattle.page_check.proofs.PageRun.{none_yet, one_more, open_found, all_blocking}
use Rattle.page_check.proofs.check.first_open.Goals as goal

pub loop-i-init : goal.loop-i-init
loop-i-init c d W fit = none_yet d c.args.page.now

pub returns-then-not-set_blocks : goal.returns-then-not-set_blocks
returns-then-not-set_blocks c d W fit =
    open_found d c.args.page.now c.loop-i.i (c.loop-i.invariant d W fit) c.loop-i-test.true
    (c.set_blocks.ensures d W (fit c.loop-i.i c.loop-i-test.true)) c.if-not-set_blocks.true

pub loop-i-preserved : goal.loop-i-preserved
loop-i-preserved c d W fit =
    one_more d c.args.page.now c.loop-i.i (c.loop-i.invariant d W fit)
    (c.set_blocks.ensures d W (fit c.loop-i.i c.loop-i-test.true)) c.if-not-set_blocks.false

pub returns : goal.returns
returns c d W fit = all_blocking d c.args.page.now c.loop-i.i (c.loop-i.invariant d W fit) c.loop-i-test.false
