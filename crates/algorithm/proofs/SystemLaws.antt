-- Laws of settle_system, which directs the rocks of one neutral tree or cycle.
--     Kept first dir, kept-direct     rocks directed in first are directed alike in dir; directing a neutral rock keeps that
--     Settling b first dir      from first to dir only neutral rocks were directed, no bench received two, and receivers have no neutral rock
--     neutral-graph             benches and neutral rocks are a graph, joined by `linked`
--     tree_settles              a neutral tree, away from its bench v
--     cycle_settles             a chain of neutral rocks that begins with rock j
--     system-settles            so it is for settle_system, and it directs a rock at least
use Prim.Native.Nat.{ℕ, ◌<◌}
use mathlib.Core.Path.{◌≡◌, refl, sym, ◌∙◌, subst}
use mathlib.Core.Logic.{inl, inr, ⊎_elim}
use mathlib.Core.Bool.{Bool, true, false, ◌&&◌}
use mathlib.Core.List.{List}
use native.Mathlib.Omega.{arith}
use lib.ListN.{length, get_or, set, length-set, length-replicate}
use lib.Dec.{eqb}
use borrow.Author.Tests.{eq-eqb, eqb-true, ltb-true, ltb-false}
use Rattle.bools.proofs.BoolLaws.{split, clash, and_intro, and_left, and_right, and-false_right, or_elim}
use Rattle.sums.specs.Sum.{count}
use Rattle.sums.specs.Search.{least}
use Rattle.sums.proofs.SearchLaws.{any_intro, any_elim, least_bound, least-holds}
use Rattle.sums.proofs.CountLaws.{count-le, count-strict, count-pos, count-pos_elim}
use Rattle.closure.proofs.ClosureLaws.{reach_refl, reach-next}
use Rattle.algorithm.specs.Board.{Board, Directions, touches, other, neutral, towards}
use Rattle.algorithm.specs.Forced.{direct, nobody}
use Rattle.algorithm.specs.Settle.{neutral_at, linked, system, system_rock, is_tree, follow, settle_system}
use Rattle.algorithm.specs.Properties.{SoundBoard, Pointed, Received, Chain, begins, goes_on, OneEach}
use Rattle.algorithm.proofs.BoardLaws.{touches-rock, touches-end, touches-low, touches-high, touches-below, other-low, other-high, other-touches, other-below, direct-rest, direct-towards, neutral-directed}
use Rattle.algorithm.proofs.BoardLaws.{pointed-direct}
use Rattle.algorithm.proofs.Graph.{Graph, Joins, component-edges, tree-edges}
use Rattle.algorithm.proofs.Receivers.{received-direct, received_keeps, direct-not-neutral, direct-directed, Single, single_none, single_step, chain_pointed}
use Rattle.algorithm.proofs.TreeGrowth.{Tree, Grown, grown_one, grown_new, grown_step}
use Rattle.algorithm.proofs.FollowLaws.{neutrals, neutral-before, neutral_at-touches, neutral_at-neutral, mark_here, mark_keeps, get_or-mark, get_or-alone, follow-ends}

-- Directed rocks are kept.
abbrev pub Kept : Directions → Directions → Type 0
Kept first dir = (j : ℕ) → neutral first j ≡ false → get_or dir j 0 ≡ get_or first j 0

pub record Settling (b : Board) (first dir : Directions) : Type 0 where
  pub pointed : Pointed b dir
  pub kept : Kept first dir
  pub once : (x e f : ℕ) → Received b first dir x e → Received b first dir x f → e ≡ f
  pub quiet : (x e : ℕ) → Received b first dir x e → (i : ℕ) → i < b.jobs → touches b i x ≡ true → neutral dir i ≡ false

pub kept-direct : (b : Board) (first dir : Directions) (v j : ℕ) → Kept first dir → neutral dir j ≡ true → Kept first (direct b dir v j)
kept-direct b first dir v j kept n i p =
    direct-rest b dir v j i (λ e. clash (subst (λ (k : ℕ). neutral first k ≡ true) (sym e) (neutral-before first dir j (kept j) n)) p) ∙ kept i p

module _ (b : Board) (ok : SoundBoard b) (first : Directions) (start : Pointed b first) where
  abbrev rock_neutral : ℕ → Bool
  rock_neutral j = b.rock j && neutral first j

  -- ── the graph of neutral rocks ──

  linked_intro : (j u w : ℕ) → j < b.jobs → touches b j u ≡ true → neutral first j ≡ true → w ≡ other b j u → linked b first u w ≡ true
  linked_intro j u w h t n e = any_intro b.jobs (λ i. neutral_at b first u i && eqb w (other b i u)) j h (and_intro (and_intro t n) (eq-eqb w (other b j u) e))

  neutral-ends : (j u w : ℕ) → j < b.jobs → touches b j u ≡ true → w ≡ other b j u → Joins b.low b.high j u w
  neutral-ends j u w h t e =
      ⊎_elim (λ q. inl (q, e ∙ other-low b j u q)) (λ q. inr (q, e ∙ other-high b ok j u h (touches-rock b j u t) q)) (touches-end b j u t)

  pub neutral-graph : Graph b.benches b.jobs rock_neutral b.low b.high (linked b first)
  neutral-graph =
      record {
        apart = λ j h p. ok.ends_differ j h (and_left (b.rock j) (neutral first j) p);
        below = λ j h p. ok.ends_below j h (and_left (b.rock j) (neutral first j) p);
        joins = λ j h p.
            let r = and_left (b.rock j) (neutral first j) p in
            let n = and_right (b.rock j) (neutral first j) p in (
              linked_intro j (b.low j) (b.high j) h (touches-low b j r) n (sym (other-low b j (b.low j) refl)),
              linked_intro j (b.high j) (b.low j) h (touches-high b j r) n (sym (other-high b ok j (b.high j) h r refl)),
            );
        joined_by = λ u w hu hw p.
            let (j, h, q) = any_elim b.jobs (λ i. neutral_at b first u i && eqb w (other b i u)) p in
            let at = and_left (neutral_at b first u j) (eqb w (other b j u)) q in
            let t = neutral_at-touches b first u j at in (
              j,
              h,
              and_intro (touches-rock b j u t) (neutral_at-neutral b first u j at),
              neutral-ends j u w h t (eqb-true w (other b j u) (and_right (neutral_at b first u j) (eqb w (other b j u)) q)),
            );
      }

  system-closed : (v j x : ℕ) → j < b.jobs → touches b j x ≡ true → neutral first j ≡ true → system b first v x ≡ true → system b first v (other b j x) ≡ true
  system-closed v j x h t n p =
      reach-next b.benches (linked b first) v x (other b j x) (touches-below b ok j x h t) (other-below b ok j x h t) p (linked_intro j x (other b j x) h t n refl)

  system-tree : (v : ℕ) → v < b.benches → is_tree b first v ≡ true → Tree b rock_neutral (system b first v)
  system-tree v hv p Y part y hy py =
      tree-edges b.benches b.jobs rock_neutral b.low b.high (linked b first) neutral-graph v hv Y part
      (omega (
        arith,
        component-edges b.benches b.jobs rock_neutral b.low b.high (linked b first) neutral-graph v,
        ltb-true (count b.jobs (system_rock b first v)) (count b.benches (system b first v)) p,
      )) y hy py

  -- ── trees ──

  module _ (v : ℕ) (hv : v < b.benches) (tree : Tree b rock_neutral (system b first v)) where
    record InTree (dir : Directions) (marked : List Bool) : Type 0 where
      pointed : Pointed b dir
      kept : Kept first dir
      marks : length marked ≡ b.benches
      grown : Grown b rock_neutral (system b first v) dir (λ x. get_or marked x false)
      single : Single b first dir (λ x. get_or marked x false)
      begin : get_or marked v false ≡ true

    tree_step : (dir : Directions) (marked : List Bool) → InTree dir marked → (u j : ℕ) → u < b.benches → get_or marked u false ≡ true
        → j < b.jobs → touches b j u ≡ true → neutral dir j ≡ true → InTree (direct b dir u j) (set marked (other b j u) true)
    tree_step dir marked s u j hu m h t n =
        let was = neutral-before first dir j (s.kept j) n in
        let rj = and_intro {a = b.rock j} {b = neutral first j} (touches-rock b j u t) was in
        let hw : other b j u < length marked = omega (arith, other-below b ok j u h t, s.marks) in
        let sub : (i : ℕ) → i < b.jobs → rock_neutral i ≡ true → b.rock i ≡ true = λ i hi p. and_left (b.rock i) (neutral first i) p in
        let new = grown_new b ok rock_neutral (system b first v) tree sub dir (λ x. get_or marked x false) s.grown s.pointed u j h t rj n m in
        record {
          pointed = pointed-direct b ok dir s.pointed u j h t;
          kept = kept-direct b first dir u j s.kept n;
          marks = length-set marked (other b j u) true ∙ s.marks;
          grown = grown_step b ok rock_neutral (system b first v) tree sub dir (λ x. get_or marked x false) s.grown s.pointed u j h t rj n m
              (system-closed v j u h t was (s.grown.part u hu m)) (λ x. get_or (set marked (other b j u) true) x false)
              (λ x hx. get_or-mark marked (other b j u) hw x);
          single = single_step b first dir (λ x. get_or marked x false) (λ x. get_or (set marked (other b j u) true) x false) s.pointed u j h s.single new
              (mark_keeps marked (other b j u) hw) (mark_here marked (other b j u) hw);
          begin = mark_keeps marked (other b j u) hw v s.begin;
        }

    in_tree : InTree first (set (nobody b) v true)
    in_tree =
        let here : v < length (nobody b) = omega (arith, length-replicate {A = Bool} b.benches false) in
        record {
          pointed = start;
          kept = λ j p. refl;
          marks = length-set (nobody b) v true ∙ length-replicate b.benches false;
          grown = grown_one b rock_neutral (system b first v) first (λ x. get_or (set (nobody b) v true) x false) v hv (reach_refl b.benches (linked b first) v)
              (get_or-alone b.benches v hv);
          single = single_none b first (λ x. get_or (set (nobody b) v true) x false);
          begin = mark_here (nobody b) v here;
        }

    -- At the end v is marked and has no neutral rock.
    pub tree_settles : Settling b first (follow b.jobs b first (set (nobody b) v true))
        × ((j : ℕ) → j < b.jobs → touches b j v ≡ true → neutral (follow b.jobs b first (set (nobody b) v true)) j ≡ false)
    tree_settles =
        let (last, s, quiet) = follow-ends b InTree (λ dir marked p. p.pointed) tree_step b.jobs first (set (nobody b) v true) in_tree
        (count-le b.jobs rock_neutral)
        in (
          record {
            pointed = s.pointed;
            kept = s.kept;
            once = s.single.once;
            quiet = λ x e r. quiet x (touches-below b ok e x r.0 r.1) (s.single.receivers x e r);
          },
          quiet v hv s.begin,
        )

  -- ── cycles ──

  module _ (one : OneEach b) (j₀ : ℕ) (h₀ : j₀ < b.jobs) (r₀ : b.rock j₀ ≡ true) (n₀ : neutral first j₀ ≡ true) where
    abbrev opened : Directions
    opened = direct b first (b.low j₀) j₀

    record InChain (dir : Directions) (marked : List Bool) : Type 0 where
      chain : Chain b first dir
      kept : Kept first dir
      marks : length marked ≡ b.benches
      received : (x : ℕ) → x < b.benches → get_or marked x false ≡ true → (e : ℕ) × Received b first dir x e
      receivers : (x e : ℕ) → Received b first dir x e → get_or marked x false ≡ true
      begin : neutral dir j₀ ≡ false

    chain_step : (dir : Directions) (marked : List Bool) → InChain dir marked → (u j : ℕ) → u < b.benches → get_or marked u false ≡ true
        → j < b.jobs → touches b j u ≡ true → neutral dir j ≡ true → InChain (direct b dir u j) (set marked (other b j u) true)
    chain_step dir marked s u j hu m h t n =
        let pointed = chain_pointed ok start s.chain in
        let hw : other b j u < length marked = omega (arith, other-below b ok j u h t, s.marks) in
        let (e, r) = s.received u hu m in
        let new : Received b first (direct b dir u j) (other b j u) j =
        (h, other-touches b ok j u h t, neutral-before first dir j (s.kept j) n, direct-towards b dir u j (omega (arith, pointed.one_to_a_job)))
        in
        record {
          chain = goes_on s.chain u j e hu h t n r;
          kept = kept-direct b first dir u j s.kept n;
          marks = length-set marked (other b j u) true ∙ s.marks;
          received = λ x hx p. elim (or_elim (get_or marked x false) (eqb x (other b j u)) (sym (get_or-mark marked (other b j u) hw x) ∙ p)) [
            | inl q ↦ let (f, r') = s.received x hx q in (f, received_keeps b first dir pointed u j h n x f r')
            | inr q ↦ (j, subst (λ (k : ℕ). Received b first (direct b dir u j) k j) (sym (eqb-true x (other b j u) q)) new)
          ];
          receivers = λ x f r'. elim (received-direct b first dir pointed u j h x f r') [
            | inl (_, at) ↦ subst (λ (k : ℕ). get_or (set marked (other b j u) true) k false ≡ true) (sym at) (mark_here marked (other b j u) hw)
            | inr (_, r'') ↦ mark_keeps marked (other b j u) hw x (s.receivers x f r'')
          ];
          begin = direct-directed b dir dir pointed u j h j₀ s.begin;
        }

    -- The rock j₀ goes to its higher bench.
    in_chain : InChain opened (set (nobody b) (b.high j₀) true)
    in_chain =
        let t = touches-low b j₀ r₀ in
        let hw : b.high j₀ < length (nobody b) = omega (arith, ok.ends_below j₀ h₀ r₀, length-replicate {A = Bool} b.benches false) in
        let high = other-low b j₀ (b.low j₀) refl in
        let new : Received b first opened (b.high j₀) j₀ =
        (h₀, touches-high b j₀ r₀, n₀, subst (λ (k : ℕ). towards opened j₀ k ≡ true) high (direct-towards b first (b.low j₀) j₀ (omega (arith, start.one_to_a_job))))
        in
        record {
          chain = begins (b.low j₀) j₀ (touches-below b ok j₀ (b.low j₀) h₀ t) h₀ t n₀;
          kept = kept-direct b first first (b.low j₀) j₀ (λ j p. refl) n₀;
          marks = length-set (nobody b) (b.high j₀) true ∙ length-replicate b.benches false;
          received = λ x hx p. (
            j₀,
            subst (λ (k : ℕ). Received b first opened k j₀)
                (sym (eqb-true x (b.high j₀) (sym (get_or-alone b.benches (b.high j₀) (ok.ends_below j₀ h₀ r₀) x hx) ∙ p))) new,
          );
          receivers = λ x e r. elim (received-direct b first first start (b.low j₀) j₀ h₀ x e r) [
            | inl (_, at) ↦ subst (λ (k : ℕ). get_or (set (nobody b) (b.high j₀) true) k false ≡ true) (sym (at ∙ high)) (mark_here (nobody b) (b.high j₀) hw)
            | inr (_, r') ↦ absurd (neutral-directed first e x r'.2 r'.3)
          ];
          begin = direct-not-neutral b first first start (b.low j₀) j₀ h₀;
        }

    pub cycle_settles : Settling b first (follow b.jobs b opened (set (nobody b) (b.high j₀) true))
        × (neutral (follow b.jobs b opened (set (nobody b) (b.high j₀) true)) j₀ ≡ false)
    cycle_settles =
        let (last, s, quiet) = follow-ends b InChain (λ dir marked p. chain_pointed ok start p.chain) chain_step b.jobs opened (set (nobody b) (b.high j₀) true)
        in_chain (count-le b.jobs (λ j. b.rock j && neutral opened j))
        in (
          record {
            pointed = chain_pointed ok start s.chain;
            kept = s.kept;
            once = λ x e f r t. one first (follow b.jobs b opened (set (nobody b) (b.high j₀) true)) start s.chain x e f
                (touches-below b ok e x r.0 r.1) r t;
            quiet = λ x e r. quiet x (touches-below b ok e x r.0 r.1) (s.receivers x e r);
          },
          s.begin,
        )

  -- ── one system ──

  -- Where one of the neutral rocks was directed, and no other became neutral.
  neutrals-fewer : (dir : Directions) → Kept first dir → (j : ℕ) → j < b.jobs → rock_neutral j ≡ true → neutral dir j ≡ false → neutrals b dir < neutrals b first
  neutrals-fewer dir kept j h p n =
      count-strict b.jobs (λ i. b.rock i && neutral dir i) rock_neutral j
      (λ i hi q. and_intro (and_left (b.rock i) (neutral dir i) q) (neutral-before first dir i (kept i) (and_right (b.rock i) (neutral dir i) q)))
      h (and-false_right (b.rock j) n) p

  abbrev first_rock : ℕ → ℕ
  first_rock v = least b.jobs (system_rock b first v)

  settle-tree : (v : ℕ) → is_tree b first v ≡ true → settle_system b first v ≡ follow b.jobs b first (set (nobody b) v true)
  settle-tree v p = rw p

  settle-cycle : (v : ℕ) → is_tree b first v ≡ false
      → settle_system b first v ≡ follow b.jobs b (direct b first (b.low (first_rock v)) (first_rock v)) (set (nobody b) (b.high (first_rock v)) true)
  settle-cycle v p = rw p

  -- A system that is no tree has as many rocks as benches, so there is a first one.
  pub system-settles : OneEach b → (v j : ℕ) → v < b.benches → j < b.jobs → neutral_at b first v j ≡ true
      → Settling b first (settle_system b first v) × (neutrals b (settle_system b first v) < neutrals b first)
  system-settles one v j hv h at = elim (split (is_tree b first v)) [
    | inl p ↦
        let t = neutral_at-touches b first v j at in
        let (s, none) = tree_settles v hv (system-tree v hv p) in
        subst (λ (D : Directions). Settling b first D × (neutrals b D < neutrals b first)) (sym (settle-tree v p))
        (s, neutrals-fewer (follow b.jobs b first (set (nobody b) v true)) s.kept j h (and_intro (touches-rock b j v t) (neutral_at-neutral b first v j at)) (none j h t))
    | inr p ↦
        let some = count-pos b.benches (system b first v) v hv (reach_refl b.benches (linked b first) v) in
        let (i, hi, q) = count-pos_elim b.jobs (system_rock b first v)
        (omega (arith, ltb-false (count b.jobs (system_rock b first v)) (count b.benches (system b first v)) p))
        in
        let h₀ : first_rock v < b.jobs = omega (arith, least_bound b.jobs (system_rock b first v) i q) in
        let both = and_left (rock_neutral (first_rock v)) (system b first v (b.low (first_rock v))) (least-holds b.jobs (system_rock b first v) h₀) in
        let (s, none) = cycle_settles one (first_rock v) h₀ (and_left (b.rock (first_rock v)) (neutral first (first_rock v)) both) (and_right (b.rock (first_rock v)) (neutral first (first_rock v)) both) in
        subst (λ (D : Directions). Settling b first D × (neutrals b D < neutrals b first)) (sym (settle-cycle v p))
        (s, neutrals-fewer (follow b.jobs b (direct b first (b.low (first_rock v)) (first_rock v)) (set (nobody b) (b.high (first_rock v)) true)) s.kept (first_rock v) h₀ both none)
  ]
