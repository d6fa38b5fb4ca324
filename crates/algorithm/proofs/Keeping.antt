-- What later directions and later rounds keep of earlier ones.
--     forces-parts                    what it means that a rock is forced
--     towards-directed                a rock that is directed to a bench is not neutral
--     keeps_directed, keeps-away      rocks stay directed, and away from the same bench
--     keeps-towards-back, keeps-away-back     a rock that was directed before had the direction that it has later
--     keeps-load                      loads only grow
--     Marks b k xs ys                 from xs to ys some benches that had no round got the round k, and nothing else changed
--     marks_refl, marks_trans, marks-set      nothing; two times in a row; one bench
--     marks_old                       a bench that had a round keeps it
--     Before b k xs                   the rounds of xs are below k, or never
--     before_marks, before_more       after round k they are below k + 1, and stay so within the round
use Prim.Native.Nat.{ℕ, suc, ◌+◌, ◌≤◌, ◌<◌}
use mathlib.Core.Path.{◌≡◌, refl, ◌∙◌}
use mathlib.Core.Logic.{◌⊎◌, inl, inr, ⊎_elim}
use mathlib.Core.Bool.{true, false, ◌&&◌}
use mathlib.Core.List.{List}
use native.Mathlib.Omega.{arith}
use lib.ListN.{length, get_or, set}
use lib.Seq.{get_or-set_same, get_or-set_other}
use borrow.Author.Tests.{ne_eqb, eqb-true, ltb-false}
use Rattle.bools.proofs.BoolLaws.{and_intro, and_left, and_right}
use Rattle.bools.proofs.OrderLaws.{eq-or-ne}
use Rattle.sums.specs.Sum.{on}
use Rattle.sums.proofs.SumLaws.{on_mono, sum-le}
use Rattle.algorithm.specs.Board.{Board, Directions, touches, other, neutral, towards, away, rock_load, load}
use Rattle.algorithm.specs.Forced.{forces}
use Rattle.algorithm.specs.Explore.{never, round_of, within}
use Rattle.algorithm.proofs.StepLaws.{forces-touches, forces-neutral, forces-more}
use Rattle.algorithm.proofs.GrowthLaws.{Grows, directed-towards}
use Rattle.algorithm.proofs.BoardLaws.{towards-unique}

-- ── directions ──

-- What a forced rock is.
pub forces-parts : (b : Board) (dir : Directions) (v j : ℕ) → forces b dir v j ≡ true
    → (touches b j v ≡ true) × (neutral dir j ≡ true) × (b.bound < load b dir v + b.weight j)
forces-parts b dir v j f = (forces-touches b dir v j f, forces-neutral b dir v j f, forces-more b dir v j f)

pub towards-directed : (dir : Directions) (j u : ℕ) → towards dir j u ≡ true → neutral dir j ≡ false
towards-directed dir j u t = ne_eqb (get_or dir j 0) 0 (λ e. omega (arith, eqb-true (get_or dir j 0) (suc u) t))

pub keeps_directed : {dir later : Directions} → Grows dir later → (j : ℕ) → neutral dir j ≡ false → neutral later j ≡ false
keeps_directed {dir} {later} keeps j n = let (u, t) = directed-towards dir j n in towards-directed later j u (keeps.keeps j u t)

pub keeps-towards-back : {dir later : Directions} → Grows dir later → (j u : ℕ) → neutral dir j ≡ false → towards later j u ≡ true → towards dir j u ≡ true
keeps-towards-back {dir} {later} keeps j u n t =
    let (w, s) = directed-towards dir j n in
    rw (towards-unique later j u w t (keeps.keeps j w s)) s

module _ (b : Board) {dir later : Directions} (keeps : Grows dir later) where
  pub keeps-away : (j v : ℕ) → away b dir j v ≡ true → away b later j v ≡ true
  keeps-away j v a =
      and_intro (and_left (touches b j v) (towards dir j (other b j v)) a) (keeps.keeps j (other b j v) (and_right (touches b j v) (towards dir j (other b j v)) a))

  pub keeps-away-back : (j v : ℕ) → neutral dir j ≡ false → away b later j v ≡ true → away b dir j v ≡ true
  keeps-away-back j v n a =
      and_intro (and_left (touches b j v) (towards later j (other b j v)) a)
      (keeps-towards-back keeps j (other b j v) n (and_right (touches b j v) (towards later j (other b j v)) a))

  pub keeps-load : (v : ℕ) → load b dir v ≤ load b later v
  unfolding rock_load
  keeps-load v =
      let more = sum-le b.jobs (λ j. on (touches b j v && towards dir j v) (b.weight j)) (λ j. on (touches b j v && towards later j v) (b.weight j))
      (λ j h. on_mono (touches b j v && towards dir j v) (touches b j v && towards later j v)
      (λ p. and_intro (and_left (touches b j v) (towards dir j v) p) (keeps.keeps j v (and_right (touches b j v) (towards dir j v) p)))
      (omega arith))
      in
      omega arith

-- ── rounds ──

pub record Marks (b : Board) (k : ℕ) (xs ys : List ℕ) : Type 0 where
  pub mark : (v : ℕ) → v < b.benches → (round_of b ys v ≡ round_of b xs v) ⊎ ((never b ≤ round_of b xs v) × (round_of b ys v ≡ k))

pub record Before (b : Board) (k : ℕ) (xs : List ℕ) : Type 0 where
  pub before : (v : ℕ) → v < b.benches → (round_of b xs v < k) ⊎ (round_of b xs v ≡ never b)

pub marks_refl : {b : Board} {k : ℕ} {xs : List ℕ} → Marks b k xs xs
marks_refl = record { mark = λ v h. inl refl }

pub marks_trans : {b : Board} {k : ℕ} {xs ys zs : List ℕ} → Marks b k xs ys → Marks b k ys zs → Marks b k xs zs
marks_trans f g =
    record {
      mark = λ v h.
          ⊎_elim
          (λ q. ⊎_elim (λ p. inl (q ∙ p)) (λ p. inr (p.0, q ∙ p.1)) (f.mark v h))
          (λ q. ⊎_elim (λ p. inr (omega arith, q.1)) (λ p. inr (p.0, q.1)) (f.mark v h))
          (g.mark v h);
    }

pub marks-set : (b : Board) (k : ℕ) (xs : List ℕ) (v : ℕ) → length xs ≡ b.benches → v < b.benches → within b xs v ≡ false → Marks b k xs (set xs v k)
marks-set b k xs v l h w =
    record {
      mark = λ u hu.
          ⊎_elim
          (λ e. inr (rw e (ltb-false (round_of b xs v) (never b) w), rw e (get_or-set_same xs v k (never b) (omega arith))))
          (λ ne. inl (get_or-set_other xs v u k (never b) ne))
          (eq-or-ne u v);
    }

module _ {b : Board} {k : ℕ} {xs ys : List ℕ} (marks : Marks b k xs ys) where
  pub marks_old : (v : ℕ) → v < b.benches → round_of b xs v ≤ b.benches → round_of b ys v ≡ round_of b xs v
  marks_old v h f = ⊎_elim (λ p. p) (λ p. absurd (omega arith)) (marks.mark v h)

  pub before_marks : Before b k xs → Before b (suc k) ys
  before_marks f =
      record {
        before = λ v h.
            ⊎_elim
            (λ p. ⊎_elim (λ q. inl (omega arith)) (λ q. inr (p ∙ q)) (f.before v h))
            (λ p. inl (omega arith))
            (marks.mark v h);
      }

  pub before_more : Before b (suc k) xs → Before b (suc k) ys
  before_more f =
      record {
        before = λ v h.
            ⊎_elim
            (λ p. ⊎_elim (λ q. inl (omega arith)) (λ q. inr (p ∙ q)) (f.before v h))
            (λ p. inl (omega arith))
            (marks.mark v h);
      }
