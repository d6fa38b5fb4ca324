-- The arrays show a board.
--     within_same                    a round of the array is one of the exploration where that of the board is
--     rock_differs                   different rocks have different jobs
--     other_at_lem                   the other end of a rock is that of its job
--     directs_directed, directs_loaded, directs_seen     the arrays after a rock is directed
use Prim.Native.Nat.{ℕ, ◌<◌, ◌+◌}
use mathlib.Core.Path.{◌≡◌, ap₂, ◌∙◌, refl, sym, ap, subst}
use mathlib.Core.List.{List}
use lib.ListN.{get_or, set, length-set}
use lib.Dec.{leb, eqb}
use Rattle.bools.proofs.OrderLaws.{leb-ltb, eq-or-ne, lt-or-le}
use Rattle.rocks.specs.declared.rocks.Limits.{Limits}
use Rattle.algorithm.specs.Board.{Board, Directions, touches, other, neutral, load}
use Rattle.algorithm.specs.Explore.{round_of, within}
use Rattle.rocks.specs.RockArrays.{within_at, other_at}
use Rattle.rocks.specs.BoardArrays.{Rocks, Rounds, rocks_of, rock_at, Directed, Loaded, Seen}
use mathlib.Core.Bool.{true}
use mathlib.Core.Logic.{inl, inr, ◌≢◌}
use native.Mathlib.Omega.{arith}
use lib.Seq.{get_or-set_same, get_or-set_other}
use borrow.Author.Tests.{eq-eqb, ne_eqb}
use Rattle.sums.specs.Sum.{on}
use Rattle.sums.proofs.MembersLaws.{members-rise}
use Rattle.algorithm.specs.Forced.{direct}
use Rattle.arrays.specs.Arrays.{plus_of}
use Rattle.algorithm.proofs.BoardLaws.{direct-same, direct-rest, pointed-direct, rock_load-direct, other-below}
use Rattle.rocks.proofs.ScanLaws.{rock_below}
use Rattle.arrays.proofs.NumberLaws.{plus_one, plus_fits}

module _ (b : Board) (n : Limits) (low high weight : List ℕ) (R : Rocks b n low high weight) where
  pub within-at : (xs rounds : List ℕ) (v : ℕ) → get_or rounds v 0 ≡ round_of b xs v → within_at n.benches rounds v ≡ within b xs v
  within-at xs rounds v e = ap₂ leb e R.benches ∙ leb-ltb (round_of b xs v) b.benches

  pub within_same : (xs rounds : List ℕ) → Rounds b xs rounds → (v : ℕ) → v < b.benches → within_at n.benches rounds v ≡ within b xs v
  within_same xs rounds X v l = within-at xs rounds v (X.entries v l)

-- Different rocks have different jobs.
pub rock_differs : (b : Board) (r s : ℕ) → r < rocks_of b → s < rocks_of b → r ≢ s → rock_at b r ≢ rock_at b s
rock_differs b r s hr hs ne e = elim (lt-or-le r s) [
  | inl l ↦ omega (arith, members-rise b.jobs b.rock r s 0 l hs)
  | inr l ↦ omega (arith, members-rise b.jobs b.rock s r 0 (omega arith) hr)
]

module _ (b : Board) (n : Limits) (low high weight : List ℕ) (R : Rocks b n low high weight) where
  pub other_at_lem : (r v : ℕ) → r < rocks_of b → other_at low high r v ≡ other b (rock_at b r) v
  other_at_lem r v h = rw (R.lows r h, R.highs r h)

  -- ── after a rock is directed ──

  module _ (dirs : Directions) (r v : ℕ) (h : r < rocks_of b) (t : touches b (rock_at b r) v ≡ true) where
    abbrev j : ℕ
    j = rock_at b r

    below : j < b.jobs
    below = rock_below b n low high weight R r h

    far-below : other b j v < b.benches
    far-below = other-below b R.sound j v below t

    pub directs_directed : (dir : List ℕ) → Directed b dirs dir → Directed b (direct b dirs v j) (set dir r (plus_of (other_at low high r v) 1))
    directs_directed dir D =
        record {
          pointed = pointed-direct b R.sound dirs D.pointed v j below t;
          room = omega (arith, length-set dir r (plus_of (other_at low high r v) 1), D.room);
          entries = λ s l. elim (eq-or-ne s r) [
            | inl e ↦
                subst (λ (k : ℕ). get_or (set dir r (plus_of (other_at low high r v) 1)) k 0 ≡ get_or (direct b dirs v j) (rock_at b k) 0) (sym e)
                (get_or-set_same dir r (plus_of (other_at low high r v) 1) 0 (omega (arith, D.room))
                ∙ ap (λ (k : ℕ). plus_of k 1) (other_at_lem r v h) ∙ plus_one (other b j v) (omega (arith, far-below, R.few_benches))
                ∙ sym (direct-same b dirs v j (omega (arith, D.pointed.one_to_a_job, below))))
            | inr ne ↦
                get_or-set_other dir r s (plus_of (other_at low high r v) 1) 0 ne ∙ D.entries s l
                ∙ sym (direct-rest b dirs v j (rock_at b s) (rock_differs b s r l h ne))
          ];
        }

    pub directs_loaded : (dir loads : List ℕ) → Directed b dirs dir → neutral dirs j ≡ true → Loaded b dirs loads
        → Loaded b (direct b dirs v j) (set loads (other_at low high r v) (plus_of (get_or loads (other_at low high r v) 0) (get_or weight r 0)))
    directs_loaded dir loads D free L =
        let u = other b j v in
        let sum-at = rock_load-direct b R.sound dirs D.pointed v j below t free in
        rw (other_at_lem r v h) (
        record {
          room = omega (arith, length-set loads u (plus_of (get_or loads u 0) (get_or weight r 0)), L.room);
          entries = λ w l. elim (eq-or-ne w u) [
            | inl e ↦
                let here : on (eqb u u) (b.weight j) ≡ b.weight j = rw (eq-eqb u u refl) in
                subst (λ (k : ℕ). get_or (set loads u (plus_of (get_or loads u 0) (get_or weight r 0))) k 0 ≡ load b (direct b dirs v j) k) (sym e)
                (get_or-set_same loads u (plus_of (get_or loads u 0) (get_or weight r 0)) 0 (omega (arith, L.room, far-below))
                ∙ rw (L.entries u far-below, R.weights r h)
                (let fits = R.loads_fit (direct b dirs v j) u in
                let same : load b (direct b dirs v j) u ≡ load b dirs u + b.weight j = omega (arith, sum-at u, here) in
                plus_fits (load b dirs u) (b.weight j) (omega (arith, fits, same)) ∙ sym same))
            | inr ne ↦
                let away : on (eqb w u) (b.weight j) ≡ 0 = rw (ne_eqb w u ne) in
                get_or-set_other loads u w (plus_of (get_or loads u 0) (get_or weight r 0)) 0 ne ∙ L.entries w l ∙ omega (arith, sum-at w, away)
          ];
        })

    pub directs_seen : (dir loads : List ℕ) → Seen b dirs dir loads → neutral dirs j ≡ true
        → Seen b (direct b dirs v j) (set dir r (plus_of (other_at low high r v) 1))
        (set loads (other_at low high r v) (plus_of (get_or loads (other_at low high r v) 0) (get_or weight r 0)))
    directs_seen dir loads S free =
        record { directed = directs_directed dir S.directed; loaded = directs_loaded dir loads S.directed free S.loaded }
