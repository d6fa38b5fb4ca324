-- The arrays, then the sets of benches and rocks.
use Rattle.forced.proofs.NeutralLaws.{without_one}
use Rattle.forced.proofs.forced.direct.Goals as goal

pub returns : goal.returns
returns c = (
  c.direct.ensures.0,
  c.direct.ensures.1,
  c.direct.ensures.2,
  c.with-changed.ensures,
  without_one c.args.changed.now.neutral c.less-changed.result c.with.result c.args.rock c.with.ensures
      c.less-changed.ensures,
)
