-- The weighing, of the set that is handed over (PageRun).
use Rattle.page_check.proofs.PageRun.{fit_of_the_day, weighs_set}
use Rattle.page_check.proofs.check.set_blocks.Goals as goal

pub returns : goal.returns
returns c d W fit =
    let set = c.args.set in
    c.blocks-2.ensures d (weighs_set W set) (fit_of_the_day d set c.ranges.set.fits fit)
