-- The first job that may go, and its lowest bench.
use mathlib.Core.Path.{sym, ap, ◌∙◌}
use Rattle.sets.specs.Sets.{lowest_of}
use Rattle.rock_graph.specs.Graph.{lows, highs, weights}
use Rattle.push.proofs.PushRun.{none_goes, one_goes}
use Rattle.push.proofs.push.first_push.Goals as goal

pub returns-in_err-job : goal.returns-in_err-job
returns-in_err-job c = λ b x graph G C L W.
    c.from_residual.ensures
    ∙ none_goes b c.args.n (lows graph) (highs graph) (weights graph) G.rocks x c.args.choice.now c.args.place.now
    c.args.level.now c.args.receivers.now C L W c.all_benches-all.result c.all_benches-all.ensures _ c.min-jobs.ensures
    (sym c.in_err-job.was ∙ c.first_job.ensures)

pub returns : goal.returns
returns c = λ b x graph G C L W.
    one_goes b c.args.n (lows graph) (highs graph) (weights graph) G.rocks x c.args.choice.now c.args.place.now
    c.args.level.now c.args.receivers.now C L W c.all_benches-all.result c.all_benches-all.ensures _ c.min-jobs.ensures
    c.in_ok-job.job c.lowest-bench.result c.all_benches-all.type_inv (sym c.in_ok-job.was ∙ c.first_job.ensures)
    (c.lowest-bench.ensures ∙ ap lowest_of c.open_benches.ensures)
