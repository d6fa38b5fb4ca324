-- The loop's invariant: the frames of the first i jobs stand from byte start on, and all else is as it was.
use Prim.Native.Nat.{ℕ, ◌+◌, ◌-◌, ◌*◌, ◌^◌, ◌<◌}
use native.Mathlib.Omega.{arith}
use mathlib.Core.Path.{◌≡◌, sym, ap, ◌∙◌}
use mathlib.Core.List.{List, ◌++◌, append_assoc}
use lib.ListN.{take, drop}
use borrow.Rule.Slice.PartMut.{post_of, Post-is}
use Rattle.fields.specs.declared.sheet.Job.{Job}
use Rattle.fields.specs.Format.{job_frame}
use Rattle.packing.proofs.PutLaws.{job_fits}
use Rattle.frame.proofs.WriterSteps.{jobs_none, jobs_more}
use Rattle.writing.proofs.writer.put_jobs.Goals as goal

pub loop-i-init : goal.loop-i-init
loop-i-init c =
    let a = c.args in
    jobs_none a.start a.out.now

pub loop-i-preserved : goal.loop-i-preserved
loop-i-preserved c =
    let a = c.args in
    let out = c.loop-i.out in
    let at = a.start + 14 * c.loop-i.i in
    let fits = c.requires.2 c.loop-i.i
    c.loop-i-test.true in
    let minutes = c.minutes_at in
    let j : Job = record { minutes = minutes.result; allowed = c.allowed_at.result } in
    let narrow : minutes.result < 2 ^ 20 = omega (arith, minutes.ensures, fits) in
    let size : at + 14 - at ≡ 14 = omega arith in
    let part = c.put_job.ensures ∙ job_fits j out size at narrow (omega arith) in
    let whole = ap (λ (ys : List ℕ). take at out ++ (ys ++ post_of at (at + 14 - at) out)) part ∙ ap
    (λ (rest : List ℕ). take at out ++ (job_frame j ++ rest)) (Post-is at (at + 14) out (omega arith)) ∙ sym
    (append_assoc (take at out) (job_frame j) (drop (at + 14) out)) in
    jobs_more a.start a.out.now a.minutes.now a.allowed.now c.loop-i.i j (omega (arith, c.loop-i.auto.out))
    c.loop-i.invariant minutes.ensures c.allowed_at.ensures whole

pub returns : goal.returns
returns c =
    let e : c.loop-i.i ≡ c.args.n = omega arith in
    rw (← e) c.loop-i.invariant
