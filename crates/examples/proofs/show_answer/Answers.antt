-- The places shown are those written to the table.
use Rattle.std.proofs.Common.{sym}
use Rattle.std.proofs.lemmas.List.{length-take-le}
use Rattle.answers.proofs.FilledLaws.{written_fit}
use Rattle.examples.proofs.show_answer.Goals as goal

pub slice_bounds-places-end : goal.slice_bounds-places-end
slice_bounds-places-end g c = written_fit c.plan-filled.ensures.equation

pub slice_bounds-text-end : goal.slice_bounds-text-end
slice_bounds-text-end g c = sym (length-take-le _ _ (written_fit c.plan-filled.ensures.equation))
