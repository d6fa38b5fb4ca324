-- The rocks and their components; a crowded one, or the run (DayRun).
use Prim.Native.Nat.{ℕ, ◌≤◌}
use mathlib.Core.Path.{refl, sym, subst, ◌∙◌}
use mathlib.Core.Bool.{Bool, false}
use native.Mathlib.Omega.{arith}
use lib.ListN.{length, get_or, replicate, length-replicate, get_or-replicate}
use Rattle.algorithm.proofs.SheetDay.{none_long, sound_day}
use Rattle.decisions.specs.Decision.{Lent}
use Rattle.decisions.proofs.DayRun.{crowded_decided, not_crowded, marks-are, jobs_gathered, rocks_gathered}
use Rattle.decisions.proofs.DayRun.{limit-benches, limit-jobs, limit_bound, limit-small, limit-limit}
use Rattle.rocks.specs.declared.balancing.Balance.{Balance}
use Rattle.rocks.specs.declared.balancing.Balance.TheVariants.{Tree, Unknown}
use Rattle.rocks.specs.SpreadArrays.{is_crowded}
use Rattle.rocks.proofs.ComponentRun.{cycles_are}
use Rattle.rocks.proofs.FirstLaws.{first-some}
use Rattle.deciding.proofs.deciding.decide_short.Goals as goal

pub returns-in-Some : goal.returns-in-Some
returns-in-Some c d L short =
    let h = c.args.h in
    let jobs = c.args.jobs in
    let minutes = c.args.minutes.now in
    let allowed = c.args.allowed.now in
    let booked = c.args.booked in
    let rock = c.mark_rocks.new.rock in
    let balance = c.balances.new.balance in
    let n = c.limits-bare.result in
    let limits-are = c.limits-bare.ensures in
    let wide : 512 ≤ length (replicate {A = ℕ} 512 0) = omega (arith, length-replicate {A = ℕ} 512 0) in
    let sound = sound_day d L.accepted (none_long d short) in
    let few-benches = L.fields.bounded.few_benches in
    let marks = marks-are d h jobs minutes allowed booked L (replicate 512 false)
    (omega (arith, length-replicate {A = Bool} 512 false)) c.mark_rocks.ensures in
    let nb = limit-benches d h jobs minutes allowed booked L n limits-are in
    let nj = limit-jobs d h jobs minutes allowed booked L n limits-are in
    let G = rocks_gathered d h jobs minutes allowed booked L sound rock marks c.gather-rocks.ensures.0
    _ (replicate 512 0) (replicate 512 0) nb nj refl wide wide c.gather-rocks.ensures.2 c.gather-rocks.ensures.3 in
    let balance-is = c.balances.ensures d G (omega (arith, length-replicate {A = Balance} 64 Unknown, few-benches))
    (λ v l. get_or-replicate {A = Balance} 64 v Unknown Tree (omega (arith, few-benches))) in
    let below = (first-some n.benches (λ v. is_crowded (get_or balance v Tree)) c.crowded_bench.ensures c.in-Some.is).1 in
    let named = c.crowded.ensures d G (omega (arith, nb, below)) in
    rw c.without_places.ensures
    (crowded_decided d n.benches balance L.fields.bounded.few_jobs short nb balance-is
    c.crowded_bench.ensures c.in-Some.is named)

pub returns : goal.returns
returns c d L short =
    let h = c.args.h in
    let jobs = c.args.jobs in
    let minutes = c.args.minutes.now in
    let allowed = c.args.allowed.now in
    let booked = c.args.booked in
    let rock = c.mark_rocks.new.rock in
    let balance = c.balances.new.balance in
    let n = c.limits-bare.result in
    let limits-are = c.limits-bare.ensures in
    let wide : 512 ≤ length (replicate {A = ℕ} 512 0) = omega (arith, length-replicate {A = ℕ} 512 0) in
    let sound = sound_day d L.accepted (none_long d short) in
    let few-benches = L.fields.bounded.few_benches in
    let marks = marks-are d h jobs minutes allowed booked L (replicate 512 false)
    (omega (arith, length-replicate {A = Bool} 512 false)) c.mark_rocks.ensures in
    let nb = limit-benches d h jobs minutes allowed booked L n limits-are in
    let nj = limit-jobs d h jobs minutes allowed booked L n limits-are in
    let G = rocks_gathered d h jobs minutes allowed booked L sound rock marks c.gather-rocks.ensures.0
    _ (replicate 512 0) (replicate 512 0) nb nj refl wide wide c.gather-rocks.ensures.2 c.gather-rocks.ensures.3 in
    let balance-is = c.balances.ensures d G (omega (arith, length-replicate {A = Balance} 64 Unknown, few-benches))
    (λ v l. get_or-replicate {A = Balance} 64 v Unknown Tree (omega (arith, few-benches))) in
    let sparse = not_crowded d n.benches balance nb balance-is c.crowded_bench.ensures c.in_default.is in
    c.decide_sparse.ensures d
    (subst (λ (k : ℕ). Lent d h k minutes allowed booked) (sym (nj ∙ sym L.fields.jobs_are)) L)
    (record {
      day_rocks = G;
      rock_jobs = jobs_gathered d h jobs minutes allowed booked L sound rock marks c.gather-rocks.ensures.0
          (replicate 512 0) wide c.gather-rocks.ensures.1;
      cycles = cycles_are d balance balance-is;
      rocky = marks;
      bounds = limit_bound d h jobs minutes allowed booked L n limits-are;
      smalls = limit-small d h jobs minutes allowed booked L n limits-are;
      limits = limit-limit d h jobs minutes allowed booked L n limits-are;
      short = short;
      sparse = sparse;
    })
