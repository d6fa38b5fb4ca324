-- Fault 13, and then the search with the tables of its plan (BestRun).
use native.Mathlib.Omega.{arith}
use lib.ListN.{length}
use Rattle.day.specs.Day.{day_of, with_target}
use Rattle.algorithm.specs.Best.{best_target}
use Rattle.planning.proofs.SheetRun.{places_short, loads_short, tables_fit}
use Rattle.best_target.proofs.BestRun.{best_read, refusal-answered, search_lent, plan_places, found_answered}
use Rattle.best_target.proofs.BestRun.{places_found}
use Rattle.best_target.proofs.finder.best_of_sheet.Goals as goal

pub returns-then-places-jobs : goal.returns-then-places-jobs
returns-then-places-jobs c bytes sheet read same =
    let places = c.args.places.now in
    let loads = c.args.loads.now in
    refusal-answered
    (best_read bytes (length places) (length loads) sheet read
    (places_short bytes sheet c.args.s read same (length places) (length loads)
    (omega (arith, c.if-places-jobs.true))))
    c.refusal.ensures places loads

pub returns-then-loads-benches : goal.returns-then-loads-benches
returns-then-loads-benches c bytes sheet read same =
    let places = c.args.places.now in
    let loads = c.args.loads.now in
    refusal-answered
    (best_read bytes (length places) (length loads) sheet read
    (loads_short bytes sheet c.args.s read same (length places) (length loads)
    (omega (arith, c.if-loads-benches.true))))
    c.refusal-then-loads-benches.ensures places loads

pub returns : goal.returns
returns c bytes sheet read same =
    let s = c.args.s in
    let places = c.args.places.now in
    let loads = c.args.loads.now in
    let found = c.search-found.result in
    let d = day_of sheet in
    let L = search_lent bytes sheet s read same c.to_numbers.ensures c.to_numbers-2.ensures
    c.to_numbers-3.ensures in
    let F = c.search-found.ensures d L in
    let P = plan_places d found F s.head s.count _ _ _ L in
    let written = c.write_plan-plan.ensures (with_target d (best_target d)) (places_found d found F) P
    (omega (arith, c.if-places-jobs.false, P.fields.jobs_are)) (omega (arith, c.if-loads-benches.false, P.benches_are)) in
    let answers = best_read bytes (length places) (length loads) sheet read
    (tables_fit bytes sheet s read same (length places) (length loads)
    (omega (arith, c.if-places-jobs.false)) (omega (arith, c.if-loads-benches.false))) in
    rw answers (found_answered d found F P.fields.jobs_are P.benches_are written)
