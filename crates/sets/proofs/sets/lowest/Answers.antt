-- The zeros above the highest set bit.
use Rattle.sets.proofs.BitLaws.{lowest_leading}
use Rattle.sets.proofs.sets.lowest.Goals as goal

pub returns : goal.returns
returns c = lowest_leading c.args.set c.ranges.set.fits
