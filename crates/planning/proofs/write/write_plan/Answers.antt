-- The loads added up, and both tables filled (WriteRun).
use Prim.Native.Nat.{ℕ, ◌<◌}
use mathlib.Core.Path.{◌≡◌, ap, ◌∙◌}
use mathlib.Core.List.{List}
use native.Mathlib.Omega.{arith}
use lib.ListN.{get_or, replicate, length-replicate}
use Rattle.arrays.proofs.FilledLaws.{get_or-filled}
use Rattle.loads.proofs.LoadLaws.{bench_load}
use Rattle.planning.proofs.WriteRun.{plan_written}
use Rattle.planning.proofs.write.write_plan.Goals as goal

pub returns : goal.returns
returns c d ps P rp rl =
    let place = c.args.place.now in
    let bench = c.to_numbers.new.to in
    let wide = length-replicate {A = ℕ} 512 0 in
    let F = P.fields in
    let few = F.bounded.few_jobs in
    let copied : (j : ℕ) → j < d.jobs → get_or bench j 0 ≡ get_or place j 0 =
    λ j h. ap (λ (xs : List ℕ). get_or xs j 0) c.to_numbers.ensures
    ∙ get_or-filled (λ i. get_or place i 0) c.args.jobs (replicate 512 0) j 0
    (omega (arith, h, F.jobs_are)) (omega (arith, h, wide, few)) in
    plan_written d c.args.jobs c.args.benches c.args.minutes.now c.args.booked place ps P bench copied
    c.args.moves c.sum_benches-sum.new.load c.args.places.now c.args.loads.now
    (λ v l. bench_load c.args.jobs c.args.minutes.now bench c.args.booked c.sum_benches-sum.ensures.loads
    v (omega (arith, l, c.sum_benches-sum.auto.load)))
    rp rl c.from_numbers.ensures c.from_numbers-2.ensures c.sum_benches-sum.ensures.fullest
