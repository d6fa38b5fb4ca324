-- Fault 13, what is decided, and the tables of a plan (SheetRun).
use mathlib.Core.Path.{sym, ◌∙◌}
use native.Mathlib.Omega.{arith}
use lib.ListN.{length}
use Rattle.day.specs.Day.{day_of}
use Rattle.algorithm.specs.Run.{run}
use Rattle.decisions.specs.Decision.{places_in}
use Rattle.planning.specs.Places.{Places}
use Rattle.planning.proofs.SheetRun.{day_lent, places_short, loads_short, tables_fit, short_answer, long_enough}
use Rattle.planning.proofs.SheetRun.{decided_long, decided_none, decided_plan}
use Rattle.planning.proofs.planner.plan_sheet.Goals as goal

pub returns-then-places-jobs : goal.returns-then-places-jobs
returns-then-places-jobs c bytes sheet read same =
    let places = c.args.places.now in
    let loads = c.args.loads.now in
    rw c.unwritten.ensures
    (short_answer bytes sheet c.args.s read same (length places) (length loads)
    (places_short bytes sheet c.args.s read same (length places) (length loads)
    (omega (arith, c.if-places-jobs.true))) places loads)

pub returns-then-loads-benches : goal.returns-then-loads-benches
returns-then-loads-benches c bytes sheet read same =
    let places = c.args.places.now in
    let loads = c.args.loads.now in
    rw c.unwritten-then-loads-benches.ensures
    (short_answer bytes sheet c.args.s read same (length places) (length loads)
    (loads_short bytes sheet c.args.s read same (length places) (length loads)
    (omega (arith, c.if-loads-benches.true))) places loads)

pub returns-in-Long : goal.returns-in-Long
returns-in-Long c bytes sheet read same =
    let s = c.args.s in
    let places = c.args.places.now in
    let loads = c.args.loads.now in
    let L = day_lent bytes sheet s read same c.to_numbers.ensures c.to_numbers-2.ensures
    c.to_numbers-3.ensures in
    let D = c.decide-decided.ensures (day_of sheet) L in
    let enough = long_enough bytes sheet s read same (length places) (length loads)
    (tables_fit bytes sheet s read same (length places) (length loads)
    (omega (arith, c.if-places-jobs.false)) (omega (arith, c.if-loads-benches.false))) in
    let told = sym c.in-Long.is ∙ D.decision in
    rw c.unwritten-in-Long.ensures (enough _ places loads places loads (decided_long (day_of sheet) _ told places loads))

pub returns-in-None : goal.returns-in-None
returns-in-None c bytes sheet read same =
    let s = c.args.s in
    let places = c.args.places.now in
    let loads = c.args.loads.now in
    let L = day_lent bytes sheet s read same c.to_numbers.ensures c.to_numbers-2.ensures
    c.to_numbers-3.ensures in
    let D = c.decide-decided.ensures (day_of sheet) L in
    let enough = long_enough bytes sheet s read same (length places) (length loads)
    (tables_fit bytes sheet s read same (length places) (length loads)
    (omega (arith, c.if-places-jobs.false)) (omega (arith, c.if-loads-benches.false))) in
    let told = sym c.in-None.is ∙ D.decision in
    rw c.unwritten-in-None.ensures (enough _ places loads places loads (decided_none (day_of sheet) _ told places loads))

pub returns-in-Plan : goal.returns-in-Plan
returns-in-Plan c bytes sheet read same =
    let s = c.args.s in
    let places = c.args.places.now in
    let loads = c.args.loads.now in
    let told = c.in-Plan.is in
    let place = c.decide-decided.result.places in
    let L = day_lent bytes sheet s read same c.to_numbers.ensures c.to_numbers-2.ensures
    c.to_numbers-3.ensures in
    let D = c.decide-decided.ensures (day_of sheet) L in
    let enough = long_enough bytes sheet s read same (length places) (length loads)
    (tables_fit bytes sheet s read same (length places) (length loads)
    (omega (arith, c.if-places-jobs.false)) (omega (arith, c.if-loads-benches.false))) in
    let F = L.fields in
    let ps = places_in (run (day_of sheet)) in
    let P : Places (day_of sheet) s.count s.head.benches _ _ place ps = record {
      allowed = _;
      fields = F;
      benches_are = L.benches_are;
      booked_are = L.booked_are;
      one_to_a_job = D.one_to_a_job _ told;
      places_are = D.places;
    } in
    let written = c.write_plan-plan.ensures (day_of sheet) ps P
    (omega (arith, c.if-places-jobs.false, F.jobs_are)) (omega (arith, c.if-loads-benches.false, L.benches_are)) in
    enough _ places loads _ _
    (decided_plan (day_of sheet) _ (sym told ∙ D.decision) (D.one_to_a_job _ told) F.jobs_are L.benches_are
    written)
