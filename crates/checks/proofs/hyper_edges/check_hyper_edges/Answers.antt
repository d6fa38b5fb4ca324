-- `check_hyper_edges`: no job passed has fault 12; the number of set bits is the number of benches allowed (HyperEdges).
use borrow.Author.Count.{below_more}
use Prim.Native.Nat.{◌<◌, ◌^◌}
use mathlib.Core.Path.{sym, ◌∙◌}
use native.Mathlib.Omega.{arith}
use lib.ListN.{get_or}
use Rattle.sums.proofs.LargestLaws.{largest_bound}
use Rattle.fields.specs.Tests.{no_minutes, job_table}
use Rattle.checks.proofs.HyperEdges.{table_job, product_fits, heavy-job, light_benches, light_minutes, heavy_found, heavy_none}
use Rattle.checks.proofs.HyperEdges.{wide_p, wide_q, wide_minutes, none_wide}
use Rattle.checks.proofs.hyper_edges.check_hyper_edges.Goals.{then-h-w+else-allowed_at-ge3, else-h-w}
use Rattle.checks.proofs.hyper_edges.check_hyper_edges.Goals as goal

pub returns-then-h-ge128 : goal.returns-then-h-ge128
returns-then-h-ge128 c =
    let a = c.args in
    sym (wide_p a.h (job_table a.count a.minutes.now a.allowed.now) c.if-h-ge128.true)

pub returns-then-h-ge128-2 : goal.returns-then-h-ge128-2
returns-then-h-ge128-2 c =
    let a = c.args in
    sym (wide_q a.h (job_table a.count a.minutes.now a.allowed.now) c.if-h-ge128-2.true)

pub returns-then-w-ge1048576 : goal.returns-then-w-ge1048576
returns-then-w-ge1048576 c =
    let a = c.args in
    let w = c.longest-w in
    sym (wide_minutes a.minutes.now a.allowed.now a.count a.h w.result w.ensures (omega arith))

pub loop-n-init : goal.loop-n-init
loop-n-init c = λ k below. absurd (omega arith)

pub overflow_mul-h : goal.overflow_mul-h
overflow_mul-h c =
    let w = c.longest-w in
    let a = c.args in
    record { fits = product_fits a.h.p w.result c.if-h-ge128.false (omega arith) }

pub overflow_mul-h-in-loop-n : goal.overflow_mul-h-in-loop-n
overflow_mul-h-in-loop-n c =
    let at-minutes = c.minutes_at in
    let at-loop-test = c.loop-n-test in
    let at-loop = c.loop-n in
    let at-if3 = c.if-w-ge1048576 in
    let at-if2 = c.if-h-ge128-2 in
    let at-longest = c.longest-w in
    let a = c.args in
    let at_most =
    largest_bound a.count (λ i. get_or a.minutes.now i no_minutes) at-loop.n at-loop-test.true in
    record {
      fits = product_fits a.h.q at-minutes.result at-if2.false
          (omega (arith, at_most, at-longest.ensures, at-minutes.ensures, at-if3.false));
    }

pub returns-then-allowed_at-ge3 : goal.returns-then-allowed_at-ge3
returns-then-allowed_at-ge3 c =
    let l = c.loop-n in
    let w = c.longest-w in
    let a = c.args in
    let ms = a.minutes.now in
    let bs = a.allowed.now in
    let narrow = c.type_inv.allowed l.n in
    let found = heavy_found ms bs a.count a.h w.result w.ensures l.n c.loop-n-test.true
    (heavy-job a.h w.result (table_job ms bs l.n) (omega (arith, narrow))
    (rw (← c.allowed_at.ensures) c.if-allowed_at-ge3.true)
    (rw (← c.minutes_at.ensures) c.if-h-w.true))
    l.invariant in
    sym (none_wide ms bs a.count a.h w.result w.ensures (omega arith) (omega arith) (omega arith) ∙ found)

pub returns : goal.returns
returns c =
    let a = c.args in
    let ms = a.minutes.now in
    let bs = a.allowed.now in
    let w = c.longest-w in
    let none = heavy_none ms bs a.count a.h w.result w.ensures
    (λ k lt. c.loop-n.invariant k (omega arith)) in
    sym (none_wide ms bs a.count a.h w.result w.ensures (omega arith) (omega arith) (omega arith) ∙ none)

pub loop-n-preserved : goal.loop-n-preserved
loop-n-preserved c =
    let at-loop = c.loop-n in
    let a = c.args in
    let bs = a.allowed.now in
    let n = at-loop.n in
    let w = c.longest-w.result in
    let job = table_job a.minutes.now bs n in
    let fits : get_or bs n 0 < 2 ^ 64 = omega (arith, c.type_inv.allowed n) in
    below_more _ _ at-loop.invariant
    (elim c.if-h-w.branch [
      | then-h-w+else-allowed_at-ge3 k ↦
          light_benches a.h w job fits (rw (← k.allowed_at.ensures) k.if-allowed_at-ge3.false)
      | else-h-w k ↦ light_minutes a.h w job fits (rw (← c.minutes_at.ensures) k.if-h-w.false)
    ])
