-- Candidates in the construction of the conflict set.
--     lowest_bound, nowhere         what a search that found the lowest bench says of the others
--     closed_nowhere                no bench joins a closed conflict set
--     neutral-nowhere               where no rock is neutral there is none for a fake orientation
--     Growing                       what the loop that closes the conflict set keeps of its sets
--     fakes_more                    the benches that joined may have a rock for a fake orientation
--     forces-far                    after a fake orientation only the bench that received the rock may force one
--     joins-tails, fakes_rest       which benches may join after it, and which may have another rock for one
use Prim.Native.Nat.{ℕ, suc, ◌+◌, ◌≤◌, ◌<◌}
use mathlib.Core.Path.{◌≡◌, refl, sym, ap, subst, ◌∙◌}
use mathlib.Core.Bool.{Bool, true, false, not, ◌&&◌, ◌||◌}
use mathlib.Core.Logic.{inl, inr, ◌≢◌}
use mathlib.Core.List.{List}
use native.Mathlib.Omega.{arith}
use lib.Bits.{bit_or}
use lib.ListN.{get_or, set, length}
use lib.Dec.{eqb, leb, ltb}
use lib.Seq.{get_or-set_same, get_or-set_other}
use borrow.Author.Tests.{eq-eqb, ne_eqb, eqb-true, lt-ltb, le-leb}
use Rattle.bools.proofs.BoolLaws.{split, clash, and_intro, and_left, and_right, and-false_left, or_left, or_right, not-true}
use Rattle.bools.proofs.OrderLaws.{eq-or-ne, lt_of_ne}
use Rattle.sums.specs.Sum.{count}
use Rattle.sums.specs.Search.{any, least}
use Rattle.sums.proofs.SearchLaws.{any_intro, least_bound, least-none}
use Rattle.sums.proofs.CountLaws.{count-le, count-zero}
use Rattle.bits.specs.Bits.{is_set}
use Rattle.rocks.specs.declared.rocks.Limits.{Limits}
use Rattle.algorithm.specs.Board.{Board, Directions, touches, other, neutral}
use Rattle.algorithm.specs.Forced.{forced_orientations}
use Rattle.algorithm.specs.Explore.{within, joins, conflict_set}
use Rattle.arrays.specs.Arrays.{plus_of}
use Rattle.rocks.specs.RockArrays.{lowest_end, touches_at, other_at, within_at}
use Rattle.rocks.specs.BoardArrays.{rocks_of, rock_at, Rocks, Directed, Rounds}
use Rattle.conflict.specs.ConflictArrays.{joins_at, fake_at, Grew}
use Rattle.rock_graph.specs.Neighbours.{Neighbours}
use Rattle.forced.specs.SetArrays.{Covers, Nowhere, forces_at, Tails}
use Rattle.algorithm.proofs.BoardLaws.{touches-below, other-below, other-touches, other-other}
use Rattle.algorithm.proofs.GrowthLaws.{directed-towards}
use Rattle.algorithm.proofs.StepLaws.{steps-towards}
use Rattle.algorithm.proofs.ForcedLaws.{forced_call}
use Rattle.algorithm.proofs.RoundSteps.{conflict_set-closed}
use Rattle.rocks.proofs.ScanLaws.{lowest-least, rock_below, low_below, high_below, touches_at_lem}
use Rattle.rocks.proofs.BoardLaws.{other_at_lem}
use Rattle.conflict.proofs.ConflictRun.{lowest_joining}
use Rattle.sets.proofs.SetLaws.{or-is_set}

pub or_has_left : (a c u : ℕ) → is_set 64 a u ≡ true → is_set 64 (bit_or a c) u ≡ true
or_has_left a c u p = or-is_set a c u ∙ or_left (is_set 64 c u) p

pub or_has_right : (a c u : ℕ) → is_set 64 c u ≡ true → is_set 64 (bit_or a c) u ≡ true
or_has_right a c u p = or-is_set a c u ∙ or_right (is_set 64 a u) p

-- The round of another bench stays.
within-other : (m : ℕ) (rounds : List ℕ) (v u i : ℕ) → u ≢ v → within_at m (set rounds v i) u ≡ within_at m rounds u
within-other m rounds v u i ne = ap (λ (k : ℕ). leb k m) (get_or-set_other rounds v u i 0 ne)

within_new : (m : ℕ) (rounds : List ℕ) (v i : ℕ) → v < length rounds → i ≤ m → within_at m (set rounds v i) v ≡ true
within_new m rounds v i h l = ap (λ (k : ℕ). leb k m) (get_or-set_same rounds v i 0 h) ∙ le-leb i m l

-- ── sets of benches that grew ──

pub grew_none : (n : Limits) (joined : List ℕ) (none : ℕ) → Grew n joined joined none
grew_none n joined none v h out in-it = clash in-it out

pub grew_join : (n : Limits) (first mid last : List ℕ) (grown more : ℕ) → Grew n first mid grown → Grew n mid last more → Grew n first last (bit_or grown more)
grew_join n first mid last grown more G M v h out in-it = elim (split (within_at n.benches mid v)) [
  | inl p ↦ or_has_left grown more v (G v h out p)
  | inr p ↦ or_has_right grown more v (M v h p in-it)
]

module _ (b : Board) (n : Limits) (low high weight : List ℕ) (R : Rocks b n low high weight) where
  at_board : (r : ℕ) → r < n.rocks → r < rocks_of b
  at_board r h = omega (arith, R.rocks)

  job_below : (r : ℕ) → r < n.rocks → rock_at b r < b.jobs
  job_below r h = rock_below b n low high weight R r (at_board r h)

  -- ── the ends of a rock ──

  module _ (r v : ℕ) (h : r < n.rocks) (t : touches_at low high r v ≡ true) where
    touched : touches b (rock_at b r) v ≡ true
    touched = sym (touches_at_lem b n low high weight R r v (at_board r h)) ∙ t

    pub end_below : v < b.benches
    end_below = touches-below b R.sound (rock_at b r) v (job_below r h) touched

    far-is : other_at low high r v ≡ other b (rock_at b r) v
    far-is = other_at_lem b n low high weight R r v (at_board r h)

    pub far-below : other_at low high r v < b.benches
    far-below = subst (λ (k : ℕ). k < b.benches) (sym far-is) (other-below b R.sound (rock_at b r) v (job_below r h) touched)

    pub far-touches : touches_at low high r (other_at low high r v) ≡ true
    far-touches =
        touches_at_lem b n low high weight R r (other_at low high r v) (at_board r h)
        ∙ subst (λ (k : ℕ). touches b (rock_at b r) k ≡ true) (sym far-is) (other-touches b R.sound (rock_at b r) v (job_below r h) touched)

    pub far-far : other_at low high r (other_at low high r v) ≡ v
    far-far =
        other_at_lem b n low high weight R r (other_at low high r v) (at_board r h) ∙ ap (other b (rock_at b r)) far-is
        ∙ other-other b R.sound (rock_at b r) v (job_below r h) touched

    pub end_fits : v < n.benches
    end_fits = omega (arith, end_below, R.benches)

  -- ── searches ──

  module _ (P : ℕ → ℕ → Bool) (v : ℕ) (e : v ≡ lowest_end n.benches n.rocks low high P) where
    pub lowest_bound : (r u : ℕ) → r < n.rocks → touches_at low high r u ≡ true → P r u ≡ true → v ≤ u
    lowest_bound r u h t p =
        let some : ℕ → Bool = λ w. any n.rocks (λ s. touches_at low high s w && P s w) in
        let same : v ≡ least n.benches some =
        e ∙ lowest-least n.benches low high P n.rocks
        (λ s l. (omega (arith, R.benches, low_below b n low high weight R s (at_board s l)), omega (arith, R.benches, high_below b n low high weight R s (at_board s l)))) in
        subst (λ (k : ℕ). k ≤ u) (sym same)
        (least_bound n.benches some u (any_intro n.rocks (λ s. touches_at low high s u && P s u) r h (and_intro t p)))

    pub nowhere : v ≡ n.benches → Nowhere n low high P
    nowhere stop r u h t = elim (split (P r u)) [
      | inl p ↦ absurd (omega (arith, lowest_bound r u h t p, end_fits r u h t))
      | inr p ↦ p
    ]

  pub closed_nowhere : (i : ℕ) (dirs : Directions) (xs dir joined : List ℕ) → i ≤ b.benches → Directed b dirs dir → length xs ≡ b.benches
      → Rounds b (conflict_set b.benches b i dirs xs) joined → Nowhere n low high (joins_at n.benches low high dir joined)
  closed_nowhere i dirs xs dir joined hi D l X =
      let closed = conflict_set b.benches b i dirs xs in
      nowhere (joins_at n.benches low high dir joined) n.benches
      (sym (lowest_joining b n low high weight R dirs dir D closed joined X
      ∙ least-none b.benches (joins b dirs closed)
      (λ v h. conflict_set-closed b i dirs hi b.benches xs l (count-le b.benches (λ u. not (within b xs u))) v h)
      ∙ sym R.benches))
      refl

  pub neutral-nowhere : (dirs : Directions) (dir joined : List ℕ) → Directed b dirs dir → count b.jobs (neutral dirs) ≤ 0
      → Nowhere n low high (fake_at n.benches dir joined)
  neutral-nowhere dirs dir joined D none r v h t =
      and-false_left (within_at n.benches joined v)
      (ap (λ (k : ℕ). eqb k 0) (D.entries r (at_board r h)) ∙ count-zero b.jobs (neutral dirs) (omega arith) (rock_at b r) (job_below r h))

  -- ── closing the conflict set ──

  pub record Growing (dir first : List ℕ) (cand grown : ℕ) (joined : List ℕ) : Type 0 where
    pub covers : Covers n low high (joins_at n.benches low high dir joined) cand
    pub grew : Grew n first joined grown

  pub growing_starts : (dir joined : List ℕ) (cand none : ℕ) → Covers n low high (joins_at n.benches low high dir joined) cand → Growing dir joined cand none joined
  growing_starts dir joined cand none C = record { covers = C; grew = grew_none n joined none }

  module _ (few : rocks_of b ≤ 64) (near : List ℕ) (N : Neighbours n low high near) where
    -- v joins: its neighbours are new candidates.
    pub growing_goes_on : {dir first : List ℕ} {cand grown : ℕ} {joined : List ℕ} (i v : ℕ) → Growing dir first cand grown joined
        → b.benches ≤ length joined → i ≤ b.benches
        → v ≡ lowest_end n.benches n.rocks low high (joins_at n.benches low high dir joined) → v < b.benches
        → {joined' : List ℕ} → joined' ≡ set joined v i
        → (rest more grown' : ℕ)
        → ((u : ℕ) → u < 64 → is_set 64 grown' u ≡ (is_set 64 grown u || eqb u v))
        → ((u : ℕ) → u < 64 → is_set 64 rest u ≡ (is_set 64 cand u && ltb v u))
        → more ≡ get_or near v 0
        → Growing dir first (bit_or rest more) grown' joined'
    growing_goes_on {dir} {first} {cand} {grown} {joined} i v G room hi e hv {joined'} q rest more grown' with-v above at-v =
        record {
          covers = λ r w h t p.
              let j' = set joined v i in
              let o = other_at low high r w in
              let p' : joins_at n.benches low high dir j' r w ≡ true = subst (λ (x : List ℕ). joins_at n.benches low high dir x r w ≡ true) q p in
              let leads = eqb (get_or dir r 0) (plus_of o 1) in
              let out : within_at n.benches j' w ≡ false = not-true (within_at n.benches j' w) (and_left (not (within_at n.benches j' w)) (leads && within_at n.benches j' o) p') in
              let both : (leads && within_at n.benches j' o) ≡ true = and_right (not (within_at n.benches j' w)) (leads && within_at n.benches j' o) p' in
              let towards-o : leads ≡ true = and_left leads (within_at n.benches j' o) both in
              let in-o : within_at n.benches j' o ≡ true = and_right leads (within_at n.benches j' o) both in
              elim (eq-or-ne w v) [
                | inl at ↦ clash (within_new n.benches joined v i (omega arith) (omega (arith, R.benches))) (subst (λ (k : ℕ). within_at n.benches j' k ≡ false) at out)
                | inr ne ↦ elim (eq-or-ne o v) [
                  | inl at ↦
                      let r_small : r < 64 = omega (arith, R.rocks) in
                      let there : touches_at low high r v ≡ true = subst (λ (k : ℕ). touches_at low high r k ≡ true) at (far-touches r w h t) in
                      let back : other_at low high r v ≡ w = ap (λ (k : ℕ). other_at low high r k) (sym at) ∙ far-far r w h t in
                      or_has_right rest more w
                      (ap (λ (x : ℕ). is_set 64 x w) at-v
                      ∙ subst (λ (k : ℕ). is_set 64 (get_or near v 0) k ≡ true) back
                      (N r v h r_small (omega (arith, R.few_benches)) there
                      (subst (λ (k : ℕ). k < 64) (sym back) (omega (arith, R.few_benches, end_below r w h t)))))
                  | inr far ↦
                      let before : joins_at n.benches low high dir joined r w ≡ true =
                      and_intro (ap not (sym (within-other n.benches joined v w i ne) ∙ out)) (and_intro towards-o (sym (within-other n.benches joined v o i far) ∙ in-o)) in
                      let low-v = lowest_bound (joins_at n.benches low high dir joined) v e r w h t before in
                      let beyond : v < w = lt_of_ne v w low-v (λ s. ne (sym s)) in
                      or_has_left rest more w (above w (omega (arith, R.few_benches, end_below r w h t)) ∙ and_intro (G.covers r w h t before) (lt-ltb v w beyond))
                ]
              ];
          grew = λ w h out in-it.
              let small : w < 64 = omega (arith, R.benches, R.few_benches) in
              with-v w small ∙ elim (eq-or-ne w v) [
                | inl at ↦ or_right (is_set 64 grown w) (eq-eqb w v at)
                | inr ne ↦
                    or_left (eqb w v)
                    (G.grew w h out (sym (within-other n.benches joined v w i ne) ∙ subst (λ (x : List ℕ). within_at n.benches x w ≡ true) q in-it))
              ];
        }

  -- ── fake orientations ──

  -- After benches joined they are candidates too.
  pub fakes_more : (dir joined joined' : List ℕ) (fakes more : ℕ) → Covers n low high (fake_at n.benches dir joined) fakes → Grew n joined joined' more
      → Covers n low high (fake_at n.benches dir joined') (bit_or fakes more)
  fakes_more dir joined joined' fakes more C G r v h t p =
      let free = and_left (eqb (get_or dir r 0) 0) (within_at n.benches joined' v) p in
      let in-it = and_right (eqb (get_or dir r 0) 0) (within_at n.benches joined' v) p in
      elim (split (within_at n.benches joined v)) [
        | inl q ↦ or_has_left fakes more v (C r v h t (and_intro free q))
        | inr q ↦ or_has_right fakes more v (G v (end_fits r v h t) q in-it)
      ]

  -- Rocks that are directed keep their directions.
  kept : (dirs : Directions) (dir dir' : List ℕ) → Directed b dirs dir → Directed b (forced_orientations b dirs) dir'
      → (r : ℕ) → r < n.rocks → get_or dir r 0 ≢ 0 → get_or dir' r 0 ≡ get_or dir r 0
  kept dirs dir dir' D D' r h ne =
      let j = rock_at b r in
      let last = forced_orientations b dirs in
      let steps = (forced_call b R.sound dirs D.pointed).steps in
      let (u, t) = directed-towards dirs j (ne_eqb (get_or dirs j 0) 0 (λ z. ne (D.entries r (at_board r h) ∙ z))) in
      D'.entries r (at_board r h) ∙ eqb-true (get_or last j 0) (suc u) (steps-towards b steps j u t)
      ∙ sym (eqb-true (get_or dirs j 0) (suc u) t) ∙ sym (D.entries r (at_board r h))

  -- Rock r is directed from v to u, and then others are forced.
  module _ (dir loads joined : List ℕ) (r v : ℕ) (hr : r < n.rocks) (tv : touches_at low high r v ≡ true) (room : n.rocks ≤ length dir) where
    abbrev far : ℕ
    far = other_at low high r v

    abbrev turned : List ℕ
    turned = set dir r (plus_of far 1)

    turned-here : get_or turned r 0 ≡ plus_of far 1
    turned-here = get_or-set_same dir r (plus_of far 1) 0 (omega arith)

    plus_some : (k : ℕ) → plus_of k 1 ≢ 0
    plus_some k e = omega arith

    -- Only the bench that received the rock may force one.
    pub forces-far : Nowhere n low high (forces_at n.bound weight dir loads) → (x watch : ℕ) → ((u : ℕ) → u < 64 → is_set 64 watch u ≡ (is_set 64 0 u || eqb u far))
        → Covers n low high (forces_at n.bound weight turned (set loads far x)) watch
    forces-far none x watch is s w h t p =
        let heavy : ℕ → Bool = λ k. ltb n.bound (k + get_or weight s 0) in
        let free : eqb (get_or turned s 0) 0 ≡ true = and_left (eqb (get_or turned s 0) 0) (heavy (get_or (set loads far x) w 0)) p in
        let more : heavy (get_or (set loads far x) w 0) ≡ true = and_right (eqb (get_or turned s 0) 0) (heavy (get_or (set loads far x) w 0)) p in
        elim (eq-or-ne w far) [
          | inl at ↦ is w (omega (arith, R.few_benches, end_below s w h t)) ∙ or_right (is_set 64 0 w) (eq-eqb w far at)
          | inr ne ↦ elim (eq-or-ne s r) [
            | inl same ↦ absurd (plus_some far (sym turned-here ∙ ap (λ (k : ℕ). get_or turned k 0) (sym same) ∙ eqb-true (get_or turned s 0) 0 free))
            | inr other-rock ↦
                clash
                (and_intro (ap (λ (k : ℕ). eqb k 0) (sym (get_or-set_other dir r s (plus_of far 1) 0 other-rock)) ∙ free)
                (ap heavy (sym (get_or-set_other loads far w x 0 ne)) ∙ more))
                (none s w h t)
          ]
        ]

    module _ (dirs : Directions) (dir' : List ℕ) (D : Directed b dirs turned) (D' : Directed b (forced_orientations b dirs) dir') (in-v : within_at n.benches joined v ≡ true) where
      -- A bench that joins now is the tail of a rock that was forced.
      pub joins-tails : Nowhere n low high (joins_at n.benches low high dir joined) → (tails : ℕ) → Tails n low high turned dir' tails
          → Covers n low high (joins_at n.benches low high dir' joined) tails
      joins-tails none tails T s w h t p =
          let o = other_at low high s w in
          let leads = eqb (get_or dir' s 0) (plus_of o 1) in
          let inside = within_at n.benches joined w in
          let both : (leads && within_at n.benches joined o) ≡ true = and_right (not inside) (leads && within_at n.benches joined o) p in
          let out : not inside ≡ true = and_left (not inside) (leads && within_at n.benches joined o) p in
          let to-o : get_or dir' s 0 ≡ plus_of o 1 = eqb-true (get_or dir' s 0) (plus_of o 1) (and_left leads (within_at n.benches joined o) both) in
          let in-o : within_at n.benches joined o ≡ true = and_right leads (within_at n.benches joined o) both in
          elim (eq-or-ne (get_or turned s 0) 0) [
            | inl free ↦ T s w h t free to-o
            | inr directed ↦
                let stays : get_or turned s 0 ≡ plus_of o 1 = sym (kept dirs turned dir' D D' s h directed) ∙ to-o in
                elim (eq-or-ne s r) [
                  | inr other-rock ↦
                      clash
                      (and_intro out (and_intro (eq-eqb (get_or dir s 0) (plus_of o 1) (sym (get_or-set_other dir r s (plus_of far 1) 0 other-rock) ∙ stays)) in-o))
                      (none s w h t)
                  | inl same ↦
                      let tr : touches_at low high r w ≡ true = subst (λ (k : ℕ). touches_at low high k w ≡ true) same t in
                      let sums : plus_of far 1 ≡ plus_of (other_at low high r w) 1 =
                      sym turned-here ∙ subst (λ (k : ℕ). get_or turned k 0 ≡ plus_of (other_at low high k w) 1) same stays in
                      let one_end : far ≡ other_at low high r w = omega (arith, R.few_benches, far-below r v hr tv, far-below r w hr tr) in
                      let is-v : w ≡ v = sym (far-far r w hr tr) ∙ ap (λ (k : ℕ). other_at low high r k) (sym one_end) ∙ far-far r v hr tv in
                      clash (subst (λ (k : ℕ). within_at n.benches joined k ≡ true) (sym is-v) in-v) (not-true inside out)
                ]
          ]

      -- What is neutral now was so before; no bench below v has a rock for a fake orientation.
      pub fakes_rest : v ≡ lowest_end n.benches n.rocks low high (fake_at n.benches dir joined)
          → (fakes rest fakes' : ℕ) → Covers n low high (fake_at n.benches dir joined) fakes
          → ((u : ℕ) → u < 64 → is_set 64 rest u ≡ (is_set 64 fakes u && ltb v u)) → ((u : ℕ) → u < 64 → is_set 64 fakes' u ≡ (is_set 64 rest u || eqb u v))
          → Covers n low high (fake_at n.benches dir' joined) fakes'
      fakes_rest e fakes rest fakes' C above with-v s w h t p =
          let small : w < 64 = omega (arith, R.few_benches, end_below s w h t) in
          let free : get_or dir' s 0 ≡ 0 = eqb-true (get_or dir' s 0) 0 (and_left (eqb (get_or dir' s 0) 0) (within_at n.benches joined w) p) in
          let in-w = and_right (eqb (get_or dir' s 0) 0) (within_at n.benches joined w) p in
          with-v w small ∙ elim (eq-or-ne w v) [
            | inl at ↦ or_right (is_set 64 rest w) (eq-eqb w v at)
            | inr ne ↦ elim (eq-or-ne (get_or turned s 0) 0) [
              | inr directed ↦ absurd (directed (sym (kept dirs turned dir' D D' s h directed) ∙ free))
              | inl neutral-then ↦ elim (eq-or-ne s r) [
                | inl same ↦ absurd (plus_some far (sym turned-here ∙ ap (λ (k : ℕ). get_or turned k 0) (sym same) ∙ neutral-then))
                | inr other-rock ↦
                    let before : fake_at n.benches dir joined s w ≡ true =
                    and_intro (eq-eqb (get_or dir s 0) 0 (sym (get_or-set_other dir r s (plus_of far 1) 0 other-rock) ∙ neutral-then)) in-w in
                    let low-v = lowest_bound (fake_at n.benches dir joined) v e s w h t before in
                    or_left (eqb w v) (above w small ∙ and_intro (C s w h t before) (lt-ltb v w (lt_of_ne v w low-v (λ q. ne (sym q)))))
              ]
            ]
          ]
