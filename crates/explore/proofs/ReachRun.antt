-- The sets of the benches that the pebbles on each bench allow, filled job by job.
--     lies                 pebble j lies on u and allows v
--     Filled               what the loop keeps: the pebbles among the jobs passed are in the sets
--     filled_none, filled_next     how it starts and goes on
use Prim.Native.Nat.{ℕ, suc, ◌+◌, ◌≤◌, ◌<◌}
use mathlib.Core.Path.{◌≡◌, sym, ap, ap₂, ◌∙◌}
use mathlib.Core.Bool.{Bool, true, false, cond, ◌&&◌, ◌||◌}
use mathlib.Core.Logic.{inl, inr}
use mathlib.Core.List.{List}
use native.Mathlib.Omega.{arith}
use native.Mathlib.Numerals.{add-one}
use lib.ListN.{length, get_or, set, replicate, length-set, length-replicate, get_or-replicate}
use lib.Dec.{eqb}
use lib.Bits.{bit_or}
use lib.Seq.{get_or-set_same, get_or-set_other}
use borrow.Author.Tests.{eq-eqb, ne_eqb}
use Rattle.bools.proofs.BoolLaws.{or_nothing}
use Rattle.bools.proofs.OrderLaws.{eq-or-ne}
use Rattle.sums.specs.Search.{any}
use Rattle.bits.specs.Bits.{is_set}
use Rattle.bits.proofs.SetBits.{is_set-zero}
use Rattle.algorithm.specs.Board.{Board}
use Rattle.rocks.specs.BoardArrays.{Pebbles}
use Rattle.explore.specs.ExploreArrays.{added_at}
use Rattle.sets.proofs.SetLaws.{or-is_set}

abbrev pub lies : Board → ℕ → ℕ → ℕ → Bool
lies b u v j = b.pebble j && eqb (b.place j) u && b.allows j v

-- The pebbles among the first k jobs are in the sets.
pub record Filled (b : Board) (k : ℕ) (reaches : List ℕ) : Type 0 where
  pub room : b.benches ≤ length reaches
  pub entries : (u v : ℕ) → u < b.benches → v < b.benches → is_set 64 (get_or reaches u 0) v ≡ any k (lies b u v)

pub filled_none : (b : Board) (m : ℕ) {reaches : List ℕ} → b.benches ≤ m → reaches ≡ replicate m 0 → Filled b 0 reaches
filled_none b m few e =
    rw e (
    record {
      room = omega (arith, length-replicate {A = ℕ} m 0);
      entries = λ u v hu hv. ap (λ (x : ℕ). is_set 64 x v) (get_or-replicate m u 0 0 (omega arith)) ∙ is_set-zero 64 v;
    })

module _ (b : Board) (pebble : List Bool) (allowed place reaches : List ℕ) (j : ℕ) (P : Pebbles b pebble allowed place) (h : j < b.jobs) (F : Filled b j reaches) where
  abbrev there : ℕ
  there = get_or place j 0

  abbrev more : ℕ
  more = bit_or (get_or reaches there 0) (get_or allowed j 0)

  filled_pebble : b.pebble j ≡ true → Filled b (suc j) (set reaches there more)
  filled_pebble p =
      record {
        room = omega (arith, length-set reaches there more, F.room);
        entries = λ u v hu hv. elim (eq-or-ne u there) [
          | inl e ↦
              let here : lies b u v j ≡ b.allows j v = rw (p, eq-eqb (b.place j) u (sym (P.lie j h p) ∙ sym e)) in
              ap (λ (x : ℕ). is_set 64 x v) (ap (λ (k : ℕ). get_or (set reaches there more) k 0) e ∙ get_or-set_same reaches there more 0 (omega (arith, F.room)))
              ∙ or-is_set (get_or reaches there 0) (get_or allowed j 0) v
              ∙ ap₂ (λ (x y : Bool). x || y) (ap (λ (k : ℕ). is_set 64 (get_or reaches k 0) v) (sym e) ∙ F.entries u v hu hv) (P.allow j v h hv ∙ sym here)
          | inr ne ↦
              let away : lies b u v j ≡ false = rw (p, ne_eqb (b.place j) u (λ q. ne (sym (P.lie j h p ∙ q)))) in
              ap (λ (x : ℕ). is_set 64 x v) (get_or-set_other reaches there u more 0 ne) ∙ F.entries u v hu hv
              ∙ sym (or_nothing (any j (lies b u v))) ∙ ap (λ (x : Bool). any j (lies b u v) || x) (sym away)
        ];
      }

  filled_other : b.pebble j ≡ false → Filled b (suc j) reaches
  filled_other p =
      record {
        room = F.room;
        entries = λ u v hu hv.
            let away : lies b u v j ≡ false = rw p in
            F.entries u v hu hv ∙ sym (or_nothing (any j (lies b u v))) ∙ ap (λ (x : Bool). any j (lies b u v) || x) (sym away);
      }

  filled_added : (c : Bool) → c ≡ b.pebble j → Filled b (suc j) (cond c (set reaches there more) reaches)
  filled_added true e = filled_pebble (sym e)
  filled_added false e = filled_other (sym e)

  pub filled_next : {reaches' : List ℕ} → reaches' ≡ added_at pebble allowed place reaches j → Filled b (j + 1) reaches'
  filled_next e = rw (e, add-one) (filled_added (get_or pebble j false) (P.are j h))
