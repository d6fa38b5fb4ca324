-- The number of set bits.
use Rattle.sets.proofs.BitLaws.{choices_count}
use Rattle.sets.proofs.sets.choices.Goals as goal

pub returns : goal.returns
returns c = choices_count c.args.allowed c.ranges.allowed.fits
