-- The entries passed are filled in.
use mathlib.Core.Path.{ap, ◌∙◌}
use native.Mathlib.Omega.{arith}
use lib.ListN.{get_or}
use Rattle.arrays.proofs.FilledLaws.{filled_none, filled_more, filled-cut}
use Rattle.arrays.proofs.arrays.to_numbers.Goals as goal

pub loop-i-init : goal.loop-i-init
loop-i-init g c = filled_none (λ k. g.T.Number.number (get_or c.args.from.now k g.T.Entry.blank)) c.args.to.now

pub loop-i-preserved : goal.loop-i-preserved
loop-i-preserved g c =
    filled_more (λ k. g.T.Number.number (get_or c.args.from.now k g.T.Entry.blank)) c.loop-i.i c.args.to.now
    c.loop-i.invariant (c.number.ensures ∙ ap g.T.Number.number c.at.ensures) c.put.ensures

pub returns : goal.returns
returns g c =
    filled-cut (λ k. g.T.Number.number (get_or c.args.from.now k g.T.Entry.blank)) c.args.n _ c.loop-i.i
    c.args.to.now c.min-i-end.ensures c.loop-i.auto.i-end (omega arith) c.loop-i.invariant
