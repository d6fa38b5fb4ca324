-- The chain lemma: rocks are directed one after another, each but the first away from a bench that received one of them. Then no bench
-- receives two.
--     chain_tree       inside a tree: the receivers and the first sender are one more than the rocks directed
--     Path first dir u all receivers but u have no neutral rock, and none received two
--     chain_path       where every bench has at most two rocks: the chain is a path
--     one_each         so it is on the board of the rocks left after peeling, where no component is crowded
use Prim.Native.Nat.{ℕ, ◌≤◌, ◌<◌}
use mathlib.Core.Path.{◌≡◌, refl, sym, ◌∙◌, subst}
use mathlib.Core.Logic.{inl, inr, ⊎_elim, ◌≢◌}
use mathlib.Core.Bool.{Bool, true, false, not, ◌&&◌, ◌||◌}
use mathlib.Core.List.{List}
use native.Mathlib.Omega.{arith}
use lib.ListN.{get_or}
use lib.Dec.{eqb}
use borrow.Author.Tests.{eq-eqb, ne_eqb}
use Rattle.bools.proofs.BoolLaws.{split, clash, and_intro, or_left, or_right, not_intro_true}
use Rattle.bools.proofs.OrderLaws.{eq-or-ne}
use Rattle.sums.specs.Sum.{count}
use Rattle.sums.proofs.CountLaws.{count_mono, count-remove, count-two}
use Rattle.day.specs.Day.{Day}
use Rattle.algorithm.specs.Rocks.{rock, lowest, highest}
use Rattle.algorithm.specs.Board.{Board, Directions, touches, other, neutral}
use Rattle.algorithm.specs.Forced.{direct}
use Rattle.algorithm.specs.Start.{State, component, rocks_in, one_cycle, left_at, start}
use Rattle.algorithm.specs.Run.{board_of}
use Rattle.algorithm.specs.Properties.{SoundBoard, Pointed, Received, Chain, begins, goes_on, OneEach}
use Rattle.algorithm.specs.SoundDay.{SoundDay, Uncrowded}
use Rattle.algorithm.proofs.BoardLaws.{touches-rock, touches-end, touches-below, other-touches, other_differs, other-below, neutral-directed}
use Rattle.algorithm.proofs.RockLaws.{low_allowed, high_allowed}
use Rattle.algorithm.proofs.Graph.{edges-fewer}
use Rattle.algorithm.proofs.RockGraph.{component-self, component-allowed, one_cycle_same, rocks-tree, tree_or_cycle}
use Rattle.algorithm.proofs.Peeling.{start-peeled, start-allowed}
use Rattle.algorithm.proofs.PeeledCycles.{cycle-degree}
use Rattle.algorithm.proofs.BoardSound.{board_sound}
use Rattle.algorithm.proofs.Receivers.{received-direct, direct-not-neutral, direct-directed, Single, single_none, single_step, sender, sender-below, chain_pointed}
use Rattle.algorithm.proofs.TreeGrowth.{Tree, Grown, grown_one, grown_new, grown_step}

module _ (b : Board) (ok : SoundBoard b) (K : ℕ → Bool)
    (closed : (j x : ℕ) → j < b.jobs → touches b j x ≡ true → K x ≡ true → K (other b j x) ≡ true) where
  -- ── trees ──

  module _ (tree : Tree b b.rock K) where
    record Marked (first dir : Directions) (v : ℕ) : Type 0 where
      Y : ℕ → Bool
      grown : Grown b b.rock K dir Y
      single : Single b first dir Y
      begin : Y v ≡ true

    -- One more rock, away from a bench u of Y.
    mark : (first dir : Directions) (v : ℕ) → Pointed b dir → (Y : ℕ → Bool) → Grown b b.rock K dir Y → Single b first dir Y → Y v ≡ true
        → (u j : ℕ) → j < b.jobs → touches b j u ≡ true → neutral dir j ≡ true → Y u ≡ true → Marked first (direct b dir u j) v
    mark first dir v pointed Y grown single yv u j h t n yu =
        let rj = touches-rock b j u t in
        let new = grown_new b ok b.rock K tree (λ i hi p. p) dir Y grown pointed u j h t rj n yu in
        let ku = grown.part u (touches-below b ok j u h t) yu in
        record {
          Y = λ x. Y x || eqb x (other b j u);
          grown = grown_step b ok b.rock K tree (λ i hi p. p) dir Y grown pointed u j h t rj n yu (closed j u h t ku)
              (λ x. Y x || eqb x (other b j u)) (λ x hx. refl);
          single = single_step b first dir Y (λ x. Y x || eqb x (other b j u)) pointed u j h single new
              (λ x p. or_left (eqb x (other b j u)) p) (or_right (Y (other b j u)) (eq-eqb (other b j u) (other b j u) refl));
          begin = or_left (eqb v (other b j u)) yv;
        }

    chain_tree : {first dir : Directions} → Pointed b first → (c : Chain b first dir) → K (sender c) ≡ true → Marked first dir (sender c)
    unfolding sender
    chain_tree {first} pointed (begins v j hv h t n) k =
        mark first first v pointed (λ x. eqb x v) (grown_one b b.rock K first (λ x. eqb x v) v hv k (λ x hx. refl))
        (single_none b first (λ x. eqb x v)) (eq-eqb v v refl) v j h t n (eq-eqb v v refl)
    chain_tree {first} pointed (goes_on {dir} c v j e hv h t n r) k =
        let m = chain_tree pointed c k in
        mark first dir (sender c) (chain_pointed ok pointed c) m.Y m.grown m.single m.begin v j h t n (m.single.receivers v e r)

  -- ── paths ──

  record Path (first dir : Directions) (u : ℕ) : Type 0 where
    settled : (x e : ℕ) → Received b first dir x e → x ≢ u → (i : ℕ) → i < b.jobs → touches b i x ≡ true → neutral dir i ≡ false
    held : (x e : ℕ) → Received b first dir x e → K x ≡ true
    once : (x e f : ℕ) → Received b first dir x e → Received b first dir x f → e ≡ f

  module _ (degree-two : (x : ℕ) → x < b.benches → K x ≡ true → count b.jobs (λ i. touches b i x) ≤ 2) where
    -- A bench with a rock e directed to it and a rock j that it sends has no third.
    no_third : (x e j i : ℕ) → x < b.benches → K x ≡ true → e < b.jobs → j < b.jobs → i < b.jobs
        → touches b e x ≡ true → touches b j x ≡ true → touches b i x ≡ true → e ≢ j → i ≢ e → i ≢ j → ⊥
    no_third x e j i hx k he hj hi te tj ti ej ie ij =
        omega (
          arith,
          degree-two x hx k,
          count-remove b.jobs (λ i. touches b i x) e he te,
          count-two b.jobs (λ i. touches b i x && not (eqb i e)) j i hj hi (λ q. ij (sym q))
              (and_intro tj (not_intro_true (ne_eqb j e (λ q. ej (sym q))))) (and_intro ti (not_intro_true (ne_eqb i e ie))),
        )

    -- Only the last receiver v may have a neutral rock, so the next rock leaves from there; and a bench that received before has none, so the
    -- next receiver is new.
    module _ (first dir : Directions) (pointed : Pointed b dir) (v j : ℕ) (hv : v < b.benches) (h : j < b.jobs) (t : touches b j v ≡ true)
        (n : neutral dir j ≡ true) (kv : K v ≡ true) (path : Path first dir v) where
      new_receiver : (f : ℕ) → Received b first dir (other b j v) f → ⊥
      new_receiver f r = clash n (path.settled (other b j v) f r (other_differs b ok j v h t) j h (other-touches b ok j v h t))

      directed : (x e : ℕ) → Received b first dir x e → neutral dir e ≡ false
      directed x e (he, te, ne, w) = elim (split (neutral dir e)) [ inl p ↦ absurd (neutral-directed dir e x p w) | inr p ↦ p ]

      sent_all : (x e i : ℕ) → Received b first dir x e → x ≡ v → e ≢ j → i < b.jobs → touches b i x ≡ true → neutral (direct b dir v j) i ≡ false
      sent_all x e i r at ej hi ti = elim (eq-or-ne i j) [
        | inl q ↦ subst (λ (k : ℕ). neutral (direct b dir v j) k ≡ false) (sym q) (direct-not-neutral b dir dir pointed v j h)
        | inr ij ↦ elim (eq-or-ne i e) [
          | inl q ↦ direct-directed b dir dir pointed v j h i (subst (λ (k : ℕ). neutral dir k ≡ false) (sym q) (directed x e r))
          | inr ie ↦ absurd (no_third v e j i hv kv r.0 h hi (subst (λ (k : ℕ). touches b e k ≡ true) at r.1) t
              (subst (λ (k : ℕ). touches b i k ≡ true) at ti) ej ie ij)
        ]
      ]

      path_step : Path first (direct b dir v j) (other b j v)
      path_step =
          record {
            settled = λ x e r away i hi ti. elim (received-direct b first dir pointed v j h x e r) [
              | inl (_, at) ↦ absurd (away at)
              | inr (ej, r') ↦ elim (eq-or-ne x v) [
                | inl at ↦ sent_all x e i r' at ej hi ti
                | inr ne ↦ direct-directed b dir dir pointed v j h i (path.settled x e r' ne i hi ti)
              ]
            ];
            held = λ x e r. elim (received-direct b first dir pointed v j h x e r) [
              | inl (_, at) ↦ subst (λ (k : ℕ). K k ≡ true) (sym at) (closed j v h t kv)
              | inr (_, r') ↦ path.held x e r'
            ];
            once = λ x e f r s. elim (received-direct b first dir pointed v j h x e r) [
              | inl (p, at) ↦ elim (received-direct b first dir pointed v j h x f s) [
                | inl (q, _) ↦ p ∙ sym q
                | inr (_, s') ↦ absurd (new_receiver f (subst (λ (k : ℕ). Received b first dir k f) at s'))
              ]
              | inr (_, r') ↦ elim (received-direct b first dir pointed v j h x f s) [
                | inl (q, at) ↦ absurd (new_receiver e (subst (λ (k : ℕ). Received b first dir k e) at r'))
                | inr (_, s') ↦ path.once x e f r' s'
              ]
            ];
          }

    record Headed (first dir : Directions) : Type 0 where
      head : ℕ
      path : Path first dir head

    chain_path : {first dir : Directions} → Pointed b first → (c : Chain b first dir) → K (sender c) ≡ true → Headed first dir
    unfolding sender
    chain_path {first} pointed (begins v j hv h t n) k =
        record {
          head = other b j v;
          path = path_step first first pointed v j hv h t n k
              (record {
                settled = λ x e r. absurd (neutral-directed first e x r.2 r.3);
                held = λ x e r. absurd (neutral-directed first e x r.2 r.3);
                once = λ x e f r s. absurd (neutral-directed first e x r.2 r.3);
              });
        }
    chain_path {first} pointed (goes_on {dir} c v j e hv h t n r) k =
        let ih = chain_path pointed c k in
        elim (eq-or-ne v ih.head) [
          | inl at ↦
              record {
                head = other b j v;
                path = path_step first dir (chain_pointed ok pointed c) v j hv h t n (ih.path.held v e r)
                    (subst (λ (x : ℕ). Path first dir x) (sym at) ih.path);
              }
          | inr ne ↦ clash n (ih.path.settled v e r ne j h t)
        ]

-- ── the rocks left after peeling ──

module _ (d : Day) (sound : SoundDay d) (free : Uncrowded d) (s : State) (same : s.left ≡ (start d).left) where
  left_rock : (j : ℕ) → j < d.jobs → get_or s.left j false ≡ true → rock d j ≡ true
  left_rock j h l = (start-peeled d sound).left_rock j h (rw same at l)

  -- The ends of a rock are the benches that it allows.
  touches-allowed : (j x : ℕ) → j < d.jobs → touches (board_of d s) j x ≡ true → d.allows j x ≡ true
  touches-allowed j x h t =
      let r = left_rock j h (touches-rock (board_of d s) j x t) in
      ⊎_elim (λ e. rw e (low_allowed d j r)) (λ e. rw e (high_allowed d j r)) (touches-end (board_of d s) j x t)

  one_each_sound : SoundBoard (board_of d s) → OneEach (board_of d s)
  one_each_sound ok first dir pointed c x e f hx r r' = elim (tree_or_cycle d free (sender c) (sender-below c)) [
    | inl less ↦ (chain_tree (board_of d s) ok (component d (sender c)) (closed (sender c)) (tree (sender c) (sender-below c) less) pointed c (component-self d (sender c))
        ).single.once x e f r r'
    | inr one ↦ (chain_path (board_of d s) ok (component d (sender c)) (closed (sender c)) (two (sender c) (sender-below c) one) pointed c (component-self d (sender c))
        ).path.once x e f r r'
  ]
    where
      closed : (v j x : ℕ) → j < d.jobs → touches (board_of d s) j x ≡ true → component d v x ≡ true → component d v (other (board_of d s) j x) ≡ true
      closed v j x h t p =
          component-allowed d v j x (other (board_of d s) j x) h (left_rock j h (touches-rock (board_of d s) j x t)) (touches-below (board_of d s) ok j x h t)
          (other-below (board_of d s) ok j x h t) (touches-allowed j x h t)
          (touches-allowed j (other (board_of d s) j x) h (other-touches (board_of d s) ok j x h t)) p

      tree : (v : ℕ) → v < d.benches → rocks_in d v < count d.benches (component d v) → Tree (board_of d s) (λ j. get_or s.left j false) (component d v)
      tree v hv less Y part y hy py = omega (
        arith,
        edges-fewer d.jobs (λ j. get_or s.left j false) (rock d) (lowest d) (highest d) Y left_rock,
        rocks-tree d v hv Y part y hy py less,
      )

      two : (v : ℕ) → v < d.benches → one_cycle d v ≡ true → (x : ℕ) → x < d.benches → component d v x ≡ true
          → count d.jobs (λ i. touches (board_of d s) i x) ≤ 2
      two v hv one x hx p =
          let few = count_mono d.jobs (λ i. touches (board_of d s) i x) (left_at d (start d).left x)
          (λ i hi t. and_intro (rw same at (touches-rock (board_of d s) i x t)) (touches-allowed i x hi t))
          in
          ⊎_elim (λ e. omega arith) (λ e. omega arith) (cycle-degree d sound x hx (one_cycle_same d v x hv hx p one))

-- Chains do not look at places.
module _ (d : Day) (left : List Bool) (place place' : List ℕ) where
  abbrev here : Board
  here = board_of d (record { left = left; place = place })

  abbrev there : Board
  there = board_of d (record { left = left; place = place' })

  pointed_anywhere : (dir : Directions) → Pointed here dir → Pointed there dir
  pointed_anywhere dir p = record { one_to_a_job = p.one_to_a_job; no_rock = p.no_rock; to_an_end = p.to_an_end }

  chain_anywhere : {first dir : Directions} → Chain here first dir → Chain there first dir
  chain_anywhere (begins v j hv h t n) = begins v j hv h t n
  chain_anywhere (goes_on c v j e hv h t n r) = goes_on (chain_anywhere c) v j e hv h t n r

pub one_each : (d : Day) → SoundDay d → Uncrowded d → (s : State) → s.left ≡ (start d).left → OneEach (board_of d s)
one_each d sound free s same first dir pointed c =
    let anywhere : State = record { left = s.left; place = (start d).place } in
    one_each_sound d sound free anywhere same (board_sound d sound anywhere same (λ j h p. start-allowed d sound j h)) first dir
    (pointed_anywhere d s.left s.place (start d).place first pointed) (chain_anywhere d s.left s.place (start d).place c)
