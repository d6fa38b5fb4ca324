-- One move of the run: the states that the run goes through, and the board after a move.
--     Good d s               the state has a place for each job, pebbles lie on benches that they allow, the rest is as it was at the start
--     place_moved, place_kept       the places after one job was moved
--     own_minutes-moved, own_minutes-kept   the bench that the job goes to gains at most its minutes, and no other bench gains
--     board-moved            the board after a pebble was moved is that of Levels
--     good-moved             a state stays good if a pebble moves to a bench that it allows
--     Found d s a v          job a may be pushed to bench v
--     next_left              a move keeps no orientation: the rocks that are left stay the same
--     push_found             where a move can be made, the pair that is taken is such a one
use Prim.Native.Nat.{ℕ, ◌+◌, ◌≤◌, ◌<◌}
use mathlib.Core.Path.{◌≡◌, refl, sym, ap, ◌∙◌}
use mathlib.Core.Logic.{⊎_elim, ◌≢◌}
use mathlib.Core.Bool.{Bool, true, false, not, ◌&&◌}
use lib.ListN.{length, get_or, length-set}
use lib.Seq.{get_or-set_same, get_or-set_other}
use lib.Dec.{eqb, ltb}
use native.Mathlib.Omega.{arith}
use native.Mathlib.Nat.{mul-le-mul_left}
use borrow.Author.Tests.{ltb-true, ne_eqb}
use Rattle.bools.proofs.BoolLaws.{clash, and_right, and-false_right}
use Rattle.bools.proofs.OrderLaws.{eq-or-ne}
use Rattle.sums.specs.Sum.{on}
use Rattle.sums.specs.Search.{any}
use Rattle.sums.proofs.SumLaws.{on-le, sum-update}
use Rattle.sums.proofs.SearchLaws.{least-holds, any-least}
use Rattle.day.specs.Day.{Day, pebble, scale}
use Rattle.algorithm.specs.Push.{can_push, push_job, push_bench}
use Rattle.algorithm.specs.Start.{State, start}
use Rattle.algorithm.specs.Run.{own_minutes, board_of, moved, explored, congested, can_move, next_state}
use Rattle.algorithm.proofs.Levels.{MoveOf}

pub record Good (d : Day) (s : State) : Type 0 where
  pub left_kept : s.left ≡ (start d).left
  pub one_to_a_job : length s.place ≡ d.jobs
  pub pebble_allowed : (j : ℕ) → j < d.jobs → pebble d j ≡ true → d.allows j (get_or s.place j 0) ≡ true
  pub others_kept : (j : ℕ) → j < d.jobs → pebble d j ≡ false → get_or s.place j 0 ≡ get_or (start d).place j 0

module _ (d : Day) (s : State) (a v : ℕ) (ha : a < d.jobs) (sized : length s.place ≡ d.jobs) where
  pub place-moved : get_or (moved s a v).place a 0 ≡ v
  place-moved = get_or-set_same s.place a v 0 (omega arith)

  pub place_kept : (j : ℕ) → j ≢ a → get_or (moved s a v).place j 0 ≡ get_or s.place j 0
  place_kept j ne = get_or-set_other s.place a j v 0 ne

  -- The minutes that job j adds to bench u.
  term : State → ℕ → ℕ → ℕ
  term r u j = on (not (get_or r.left j false) && eqb (get_or r.place j 0) u) (d.minutes j)

  own_minutes-change : (u : ℕ) → own_minutes d (moved s a v) u ≤ own_minutes d s u + term (moved s a v) u a
  unfolding own_minutes term
  own_minutes-change u =
      omega (
        arith,
        sum-update d.jobs (term (moved s a v) u) (term s u) a ha
            (λ j h ne. ap (λ (p : ℕ). on (not (get_or s.left j false) && eqb p u) (d.minutes j)) (place_kept j ne)),
      )

  pub own_minutes-moved : own_minutes d (moved s a v) v ≤ own_minutes d s v + d.minutes a
  unfolding term
  own_minutes-moved = omega (arith, own_minutes-change v, on-le (not (get_or s.left a false) && eqb (get_or (moved s a v).place a 0) v) (d.minutes a))

  pub own_minutes-kept : (u : ℕ) → u ≢ v → own_minutes d (moved s a v) u ≤ own_minutes d s u
  unfolding term
  own_minutes-kept u ne =
      let none : term (moved s a v) u a ≡ 0 =
      ap (λ (k : Bool). on k (d.minutes a))
      (and-false_right (not (get_or s.left a false)) (ne_eqb (get_or (moved s a v).place a 0) u (λ q. ne (sym q ∙ place-moved))))
      in
      omega (arith, own_minutes-change u)

  pub board-moved : MoveOf (board_of d s) (board_of d (moved s a v)) a v
  board-moved =
      record {
        rest = refl;
        place_moved = place-moved;
        place_kept = λ j h ne. place_kept j ne;
        own_moved = omega (arith, mul-le-mul_left (scale d) own_minutes-moved);
        own_kept = λ u h ne. mul-le-mul_left (scale d) (own_minutes-kept u ne);
      }

pub good-moved : (d : Day) (s : State) (a v : ℕ) → a < d.jobs → Good d s → pebble d a ≡ true → d.allows a v ≡ true → Good d (moved s a v)
good-moved d s a v ha good p allowed =
    record {
      left_kept = good.left_kept;
      one_to_a_job = length-set s.place a v ∙ good.one_to_a_job;
      pebble_allowed = λ j h q.
          ⊎_elim (λ e. rw e (rw (place-moved d s a v ha good.one_to_a_job) allowed))
          (λ ne. rw (place_kept d s a v ha good.one_to_a_job j ne) (good.pebble_allowed j h q))
          (eq-or-ne j a);
      others_kept = λ j h q.
          ⊎_elim (λ e. clash p (rw e at q)) (λ ne. place_kept d s a v ha good.one_to_a_job j ne ∙ good.others_kept j h q)
          (eq-or-ne j a);
    }

-- "Un-orient all edges": a rock that was forced may turn, once the light jobs lie elsewhere.
pub next_left : (d : Day) (s : State) → (next_state d s).left ≡ s.left
next_left d s = refl

pub record Found (d : Day) (s : State) (a v : ℕ) : Type 0 where
  pub job_below : a < d.jobs
  pub bench_below : v < d.benches
  pub allowed : can_push (board_of d s) (explored d s) a v ≡ true

pub push_found : (d : Day) (s : State) → can_move d s ≡ true
    → Found d s (push_job (board_of d s) (explored d s)) (push_bench (board_of d s) (explored d s))
push_found d s can =
    let b = board_of d s in
    let x = explored d s in
    let below = ltb-true (push_job b x) d.jobs (and_right (congested d s) (ltb (push_job b x) d.jobs) can) in
    let some-bench = least-holds d.jobs (λ j. any d.benches (can_push b x j)) below in
    let bench = any-least d.benches (can_push b x (push_job b x)) some-bench in
    record { job_below = below; bench_below = bench; allowed = least-holds d.benches (can_push b x (push_job b x)) bench }
