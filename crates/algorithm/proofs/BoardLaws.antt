-- Laws of rocks, their ends and their directions.
--     touches-rock, touches-end       what it means to be an end
--     other-low, other-high, other-touches, other-other, other-below, other_differs     the other end
--     touches-below                   an end is a bench
--     neutral-directed                a rock is not both neutral and directed
--     direct-same, direct-rest, direct-length     the directions after one rock was directed
--     pointed_start, pointed-direct   only rocks are directed, each towards an end
--     rock_load-direct                a rock that is directed adds its weight to its new head and to no other bench
--     rock_load-none                  with all rocks neutral no bench has rock load
use Prim.Native.Nat.{ℕ, suc, ◌+◌, ◌<◌}
use mathlib.Core.Path.{◌≡◌, refl, sym, ap, subst, ◌∙◌}
use mathlib.Core.Logic.{◌⊎◌, inl, inr, ⊎_elim, ◌≢◌}
use mathlib.Core.Bool.{Bool, true, ◌&&◌, ◌||◌}
use native.Mathlib.Omega.{arith}
use lib.ListN.{length, get_or, replicate, length-set, length-replicate, get_or-replicate}
use lib.Seq.{get_or-set_same, get_or-set_other}
use lib.Dec.{eqb}
use borrow.Author.Tests.{eq-eqb, ne_eqb, eqb-true}
use Rattle.bools.proofs.BoolLaws.{split, clash, and_intro, and_left, and_right, and-false_right, or_left, or_right, or_elim}
use Rattle.bools.proofs.OrderLaws.{eq-or-ne}
use Rattle.sums.specs.Sum.{on}
use Rattle.sums.proofs.SumLaws.{sum-update, sum-zero}
use Rattle.algorithm.specs.Board.{Board, Directions, touches, other, neutral, towards, rock_load}
use Rattle.algorithm.specs.Forced.{direct}
use Rattle.algorithm.specs.Properties.{SoundBoard, Pointed}

module _ (b : Board) where
  pub touches-rock : (j v : ℕ) → touches b j v ≡ true → b.rock j ≡ true
  touches-rock j v t = and_left (b.rock j) (eqb v (b.low j) || eqb v (b.high j)) t

  pub touches-end : (j v : ℕ) → touches b j v ≡ true → (v ≡ b.low j) ⊎ (v ≡ b.high j)
  touches-end j v t =
      ⊎_elim (λ e. inl (eqb-true v (b.low j) e)) (λ e. inr (eqb-true v (b.high j) e))
      (or_elim (eqb v (b.low j)) (eqb v (b.high j)) (and_right (b.rock j) (eqb v (b.low j) || eqb v (b.high j)) t))

  pub touches-low : (j : ℕ) → b.rock j ≡ true → touches b j (b.low j) ≡ true
  touches-low j r = and_intro r (or_left _ (eq-eqb (b.low j) (b.low j) refl))

  pub touches-high : (j : ℕ) → b.rock j ≡ true → touches b j (b.high j) ≡ true
  touches-high j r = and_intro r (or_right (eqb (b.high j) (b.low j)) (eq-eqb (b.high j) (b.high j) refl))

  pub other-low : (j v : ℕ) → v ≡ b.low j → other b j v ≡ b.high j
  other-low j v e = rw (eq-eqb v (b.low j) e)

module _ (b : Board) (ok : SoundBoard b) where
  pub other-high : (j v : ℕ) → j < b.jobs → b.rock j ≡ true → v ≡ b.high j → other b j v ≡ b.low j
  other-high j v h r e = rw (ne_eqb v (b.low j) (λ q. omega (arith, ok.ends_differ j h r)))

  module _ (j v : ℕ) (h : j < b.jobs) (t : touches b j v ≡ true) where
    is_rock : b.rock j ≡ true
    is_rock = touches-rock b j v t

    pub other-touches : touches b j (other b j v) ≡ true
    other-touches =
        ⊎_elim
        (λ e. rw (other-low b j v e) (touches-high b j is_rock))
        (λ e. rw (other-high j v h is_rock e) (touches-low b j is_rock))
        (touches-end b j v t)

    pub other-other : other b j (other b j v) ≡ v
    other-other =
        ⊎_elim
        (λ e. rw (other-low b j v e) (other-high j (b.high j) h is_rock refl ∙ sym e))
        (λ e. rw (other-high j v h is_rock e) (other-low b j (b.low j) refl ∙ sym e))
        (touches-end b j v t)

    pub touches-below : v < b.benches
    touches-below =
        ⊎_elim
        (λ e. omega (arith, ok.ends_differ j h is_rock, ok.ends_below j h is_rock))
        (λ e. omega (arith, ok.ends_below j h is_rock))
        (touches-end b j v t)

    pub other_differs : other b j v ≢ v
    other_differs q =
        ⊎_elim
        (λ e. omega (arith, ok.ends_differ j h is_rock, other-low b j v e))
        (λ e. omega (arith, ok.ends_differ j h is_rock, other-high j v h is_rock e))
        (touches-end b j v t)

  pub other-below : (j v : ℕ) → j < b.jobs → touches b j v ≡ true → other b j v < b.benches
  other-below j v h t = touches-below j (other b j v) h (other-touches j v h t)

  -- An end that is not v is the other end.
  pub touches-other : (j v u : ℕ) → j < b.jobs → touches b j v ≡ true → touches b j u ≡ true → u ≢ v → u ≡ other b j v
  touches-other j v u h t s ne =
      let r = touches-rock b j v t in
      ⊎_elim
      (λ e. ⊎_elim (λ f. absurd (ne (f ∙ sym e))) (λ f. f ∙ sym (other-low b j v e)) (touches-end b j u s))
      (λ e. ⊎_elim (λ f. f ∙ sym (other-high j v h r e)) (λ f. absurd (ne (f ∙ sym e))) (touches-end b j u s))
      (touches-end b j v t)

-- ── directions ──

pub neutral-directed : (dir : Directions) (j v : ℕ) → neutral dir j ≡ true → towards dir j v ≡ true → ⊥
neutral-directed dir j v n t = omega (arith, eqb-true (get_or dir j 0) 0 n, eqb-true (get_or dir j 0) (suc v) t)

pub towards-unique : (dir : Directions) (j u v : ℕ) → towards dir j u ≡ true → towards dir j v ≡ true → u ≡ v
towards-unique dir j u v s t = omega (arith, eqb-true (get_or dir j 0) (suc u) s, eqb-true (get_or dir j 0) (suc v) t)

module _ (b : Board) (dir : Directions) (v j : ℕ) where
  pub direct-length : length (direct b dir v j) ≡ length dir
  direct-length = length-set dir j (suc (other b j v))

  pub direct-same : j < length dir → get_or (direct b dir v j) j 0 ≡ suc (other b j v)
  direct-same h = get_or-set_same dir j (suc (other b j v)) 0 h

  pub direct-rest : (i : ℕ) → i ≢ j → get_or (direct b dir v j) i 0 ≡ get_or dir i 0
  direct-rest i ne = get_or-set_other dir j i (suc (other b j v)) 0 ne

  pub direct-towards : j < length dir → towards (direct b dir v j) j (other b j v) ≡ true
  direct-towards h = eq-eqb (get_or (direct b dir v j) j 0) (suc (other b j v)) (direct-same h)

  -- Another rock keeps its direction.
  pub direct-neutral : (i : ℕ) → i ≢ j → neutral (direct b dir v j) i ≡ neutral dir i
  direct-neutral i ne = ap (λ (n : ℕ). eqb n 0) (direct-rest i ne)

  pub direct-towards-rest : (i u : ℕ) → i ≢ j → towards (direct b dir v j) i u ≡ towards dir i u
  direct-towards-rest i u ne = ap (λ (n : ℕ). eqb n (suc u)) (direct-rest i ne)

  -- A rock that was directed before is directed alike after.
  pub direct-keeps : (i u : ℕ) → neutral dir j ≡ true → towards dir i u ≡ true → towards (direct b dir v j) i u ≡ true
  direct-keeps i u n t =
      ⊎_elim (λ e. absurd (neutral-directed dir j u n (subst (λ (k : ℕ). towards dir k u ≡ true) e t)))
      (λ ne. direct-towards-rest i u ne ∙ t)
      (eq-or-ne i j)

pub pointed_start : (b : Board) → Pointed b (replicate b.jobs 0)
pointed_start b =
    record {
      one_to_a_job = length-replicate b.jobs 0;
      no_rock = λ j h r. get_or-replicate b.jobs j 0 0 h;
      to_an_end = λ j h r. inl (get_or-replicate b.jobs j 0 0 h);
    }

module _ (b : Board) (ok : SoundBoard b) (dir : Directions) (pointed : Pointed b dir) (v j : ℕ) (h : j < b.jobs) (t : touches b j v ≡ true) where
  in_list : j < length dir
  in_list = omega (arith, pointed.one_to_a_job)

  pub pointed-direct : Pointed b (direct b dir v j)
  pointed-direct =
      record {
        one_to_a_job = direct-length b dir v j ∙ pointed.one_to_a_job;
        no_rock = λ i hi r.
            ⊎_elim (λ e. clash (subst (λ (k : ℕ). b.rock k ≡ true) (sym e) (touches-rock b j v t)) r)
            (λ ne. direct-rest b dir v j i ne ∙ pointed.no_rock i hi r)
            (eq-or-ne i j);
        to_an_end = λ i hi r.
            ⊎_elim
            (λ e. inr (rw e (⊎_elim
            (λ q. inr (direct-same b dir v j in_list ∙ ap suc (other-low b j v q)))
            (λ q. inl (direct-same b dir v j in_list ∙ ap suc (other-high b ok j v h (touches-rock b j v t) q)))
            (touches-end b j v t))))
            (λ ne. rw (direct-rest b dir v j i ne) (pointed.to_an_end i hi r))
            (eq-or-ne i j);
      }

  term : Directions → ℕ → ℕ → ℕ
  term D u i = on (touches b i u && towards D i u) (b.weight i)

  old_term : neutral dir j ≡ true → (u : ℕ) → term dir u j ≡ 0
  unfolding term
  old_term n u =
      ⊎_elim (λ e. absurd (neutral-directed dir j u n e))
      (λ e. ap (λ (k : Bool). on k (b.weight j)) (and-false_right (touches b j u) e))
      (split (towards dir j u))

  new_term : (u : ℕ) → term (direct b dir v j) u j ≡ on (eqb u (other b j v)) (b.weight j)
  unfolding term
  new_term u =
      ⊎_elim
      (λ e.
      let t' : touches b j u ≡ true = rw e (other-touches b ok j v h t) in
      let d' : towards (direct b dir v j) j u ≡ true = rw e (direct-towards b dir v j in_list) in
      ap (λ (k : Bool). on k (b.weight j)) (and_intro t' d' ∙ sym (eq-eqb u (other b j v) e)))
      (λ ne. ap (λ (k : Bool). on k (b.weight j))
      (and-false_right (touches b j u)
      (ne_eqb (get_or (direct b dir v j) j 0) (suc u) (λ q. let e : get_or (direct b dir v j) j 0 ≡ suc (other b j v) = direct-same b dir v j in_list in ne (omega arith)))
      ∙ sym (ne_eqb u (other b j v) ne)))
      (eq-or-ne u (other b j v))

  pub rock_load-direct : neutral dir j ≡ true → (u : ℕ) → rock_load b (direct b dir v j) u ≡ rock_load b dir u + on (eqb u (other b j v)) (b.weight j)
  unfolding rock_load term
  rock_load-direct n u =
      let same = sum-update b.jobs (term (direct b dir v j) u) (term dir u) j h
      (λ i hi ne. ap (λ (k : Bool). on (touches b i u && k) (b.weight i)) (direct-towards-rest b dir v j i u ne))
      in
      let old = old_term n u in
      let new = new_term u in
      omega arith

pub rock_load-none : (b : Board) (u : ℕ) → rock_load b (replicate b.jobs 0) u ≡ 0
unfolding rock_load
rock_load-none b u =
    sum-zero b.jobs _
    (λ i h. ap (λ (k : Bool). on k (b.weight i))
    (and-false_right (touches b i u)
    (ne_eqb (get_or (replicate b.jobs 0) i 0) (suc u) (λ q. omega (arith, get_or-replicate {A = ℕ} b.jobs i 0 0 h)))))
