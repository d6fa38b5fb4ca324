-- Levels never fall (Lemma 4.4.5): a pebble was pushed, and the board was explored again.
--     rearranged b own place      the board b with other loads and other places of the pebbles
--     MoveOf b b' a v*            b' is b after the pebble a went to v*: elsewhere no load has grown
--     LevelsKept b x b' x'        no bench joins the conflict set in an earlier round, and none has a lower level
--     later-safe_after            the benches that joined after round i are safe for the new loads
--     reached_level               what the new levels below i reach had a level of at most i
--     rounds_up_to                what is in conflict by round i was so before
--     critical_after              a bench that its new load makes critical by round i was active by then
--     levels_up_to                what is active by round i was so before
--     levels_kept                 Lemma 4.4.5
use Prim.Native.Nat.{ℕ, suc, ◌+◌, ◌≤◌, ◌<◌}
use mathlib.Core.Path.{◌≡◌, sym, subst}
use mathlib.Core.Logic.{⊎_elim, ◌≢◌}
use mathlib.Core.Bool.{true, false}
use native.Mathlib.Omega.{arith}
use borrow.Author.Tests.{lt-ltb, le-ltb}
use Rattle.bools.proofs.BoolLaws.{and_left}
use Rattle.bools.proofs.OrderLaws.{lt-or-le, eq-or-ne, strong_induction, measure_induction}
use Rattle.algorithm.specs.Board.{Board, touches, other, towards, load}
use Rattle.algorithm.specs.Explore.{Explored, never}
use Rattle.algorithm.specs.Push.{leaf, light_fathers, can_push}
use Rattle.algorithm.specs.Properties.{SoundBoard, Safe, Spread, rnd, lev, Facts}
use Rattle.algorithm.proofs.BoardLaws.{other-below}
use Rattle.algorithm.proofs.SafeLaws.{completed, later, completed-conflict, later-safe, spread-neutral}
use Rattle.algorithm.proofs.ConflictLaws.{tail_first, leaf-unloaded, own_overloaded, critical_level}
use Rattle.algorithm.proofs.PushLaws.{Pushed, push_allowed, pushed_joined, pushed_fits, pushed_critical}

abbrev pub rearranged : Board → (ℕ → ℕ) → (ℕ → ℕ) → Board
rearranged b own place =
    record {
      benches = b.benches;
      jobs = b.jobs;
      bound = b.bound;
      small = b.small;
      limit = b.limit;
      rock = b.rock;
      low = b.low;
      high = b.high;
      weight = b.weight;
      own = own;
      pebble = b.pebble;
      place = place;
      allows = b.allows;
    }

pub record MoveOf (b b' : Board) (a v* : ℕ) : Type 0 where
  pub rest : b' ≡ rearranged b b'.own b'.place
  pub place_moved : b'.place a ≡ v*
  pub place_kept : (j : ℕ) → j < b.jobs → j ≢ a → b'.place j ≡ b.place j
  pub own_moved : b'.own v* ≤ b.own v* + b.weight a
  pub own_kept : (v : ℕ) → v < b.benches → v ≢ v* → b'.own v ≤ b.own v

pub record LevelsKept (b : Board) (x : Explored) (b' : Board) (x' : Explored) : Type 0 where
  pub rounds : (v : ℕ) → v < b.benches → rnd b x v ≤ rnd b' x' v
  pub levels : (v : ℕ) → v < b.benches → lev b x v ≤ lev b' x' v

module _ (b : Board) (ok : SoundBoard b) (x : Explored) (facts : Facts b x) (o : ℕ → ℕ) (spread : Spread b o)
    (a v* : ℕ) (ha : a < b.jobs) (hv : v* < b.benches) (push : Pushed b x a v*)
    (own' place' : ℕ → ℕ) (move : MoveOf b (rearranged b own' place') a v*)
    (ok' : SoundBoard (rearranged b own' place')) (x' : Explored) (facts' : Facts (rearranged b own' place') x') where
  abbrev rnd' : ℕ → ℕ
  rnd' v = rnd (rearranged b own' place') x' v

  abbrev lev' : ℕ → ℕ
  lev' v = lev (rearranged b own' place') x' v

  -- What the new exploration has active by a round before i, the old one had too.
  abbrev Below : ℕ → Type 0
  Below i = (k : ℕ) → k < i → (v : ℕ) → v < b.benches → lev' v ≤ k → lev b x v ≤ k

  joined* : rnd b x v* ≤ b.benches
  joined* = pushed_joined b ok x facts a v* ha hv push

  fits* : load b x.dir v* + b.weight a ≤ b.bound
  fits* = pushed_fits b ok x facts a v* ha hv push

  -- ── rounds ──

  -- The benches that joined after round i are safe for the new loads too: v* has room for the pebble, and no other load has grown.
  later-safe_after : (i : ℕ) → Safe (rearranged b own' place') (later b x i) (completed x.dir o)
  later-safe_after i =
      record {
        orientation = before.orientation;
        into = before.into;
        kept = λ v h u.
            ⊎_elim
            (λ e.
            let same = completed-conflict b x facts o (spread-neutral b x.dir o spread) v* hv joined* in
            rw e (omega (arith, same, move.own_moved, fits*)))
            (λ ne. omega (arith, before.kept v h u, move.own_kept v h ne))
            (eq-or-ne v v*);
      }
    where
      before : Safe b (later b x i) (completed x.dir o)
      before = later-safe b x facts o (spread-neutral b x.dir o spread) i

  -- A bench in reach of a new level below i has an old level of at most i: by E8 for the old places, and a itself lies one level higher now.
  reached_level : (i : ℕ) → i ≤ b.benches → Below i → (j v : ℕ) → j < b.jobs → b.pebble j ≡ true → lev' (place' j) < i
      → b.allows j v ≡ true → lev b x v ≤ i
  reached_level i hi below j v hj p l allowed =
      ⊎_elim
      (λ e.
      let at : lev' v* < i = rw (← move.place_moved, ← e) l in
      let old = below (lev' v*) at v* hv (omega arith) in
      let e8 : lev b x v ≤ suc (lev b x (b.place a)) = facts.next_level a v ha push.pebble (rw (← e) allowed) (omega (arith, push.one_higher, push.active)) in
      omega (arith, push.one_higher))
      (λ ne.
      let at : lev' (b.place j) < i = rw (← (move.place_kept j hj ne)) l in
      let h : b.place j < b.benches = ok.allowed_below j (b.place j) hj (ok.pebble_allowed j hj p) in
      let old = below (lev' (b.place j)) at (b.place j) h (omega arith) in
      omega (arith, facts.next_level j v hj p allowed (omega arith)))
      (eq-or-ne j a)

  rounds_up_to : (i : ℕ) → i ≤ b.benches → Below i → (v : ℕ) → v < b.benches → rnd' v ≤ i → rnd b x v ≤ i
  rounds_up_to i hi below v h l = ⊎_elim late (λ r. r) (lt-or-le i (rnd b x v))
    where
      none : (j u : ℕ) → j < b.jobs → b.pebble j ≡ true → lev' (place' j) < i → b.allows j u ≡ true → later b x i u ≡ false
      none j u hj p lj allowed =
          let hu = ok.allowed_below j u hj allowed in
          le-ltb i (rnd b x u) (omega (arith, reached_level i hi below j u hj p lj allowed, facts.joined_first u hu))

      late : i < rnd b x v → rnd b x v ≤ i
      late u =
          absurd (omega (arith, facts'.safe_outside i (later b x i) (completed x.dir o) hi (later-safe_after i) none v h (lt-ltb i (rnd b x v) u)))

  -- ── levels ──

  -- A bench that could not take the rock e besides its new load, with both ends of e in conflict by round i, was active by round i.
  -- At v* the conditions of PUSH decide. A leaf has no rock load, so it is active or a rock is forced from it by its own load (E5), which
  -- is Rule 1. Otherwise the limits on fathers and on the load leave room for the pebble beside every rock inside the conflict set.
  critical_after : (i e v : ℕ) → i ≤ b.benches → e < b.jobs → v < b.benches → touches b e v ≡ true → rnd b x v ≤ i → rnd b x (other b e v) ≤ i
      → b.bound < own' v + b.weight e → lev b x v ≤ i
  critical_after i e v hi he h t here there over =
      ⊎_elim
      (λ q. rw q (⊎_elim (leaf-case q) (λ light. absurd (light-case q light)) push.leaf_or_light))
      (λ ne. critical_level b ok x facts i e v hi he h t here there (omega (arith, move.own_kept v h ne)))
      (eq-or-ne v v*)
    where
      leaf-case : v ≡ v* → leaf b x v* ≡ true → lev b x v* ≤ i
      leaf-case q l =
          let here* : rnd b x v* ≤ i = rw (← q) here in
          let unloaded = leaf-unloaded b ok x facts v* hv joined* l in
          ⊎_elim (λ active. omega arith)
          (λ r. facts.rule_one i r.0 v* hi r.1 hv r.2 here* (omega (arith, r.3)) (omega (arith, r.4)))
          (facts.joined_cause v* hv joined*)

      light-case : v ≡ v* → light_fathers b x v* ≡ true → ⊥
      light-case q light =
          let room = pushed_critical b ok x facts a v* ha hv push light e he (rw (← q) t) (rw (← q) (omega arith)) in
          let over* : b.bound < own' v* + b.weight e = rw (← q) over in
          omega (arith, move.own_moved)

  module _ (i : ℕ) (hi : i ≤ b.benches) (below : Below i) (v : ℕ) (h : v < b.benches) (l : lev' v ≤ i) where
    joined_by : (u : ℕ) → u < b.benches → rnd' u ≤ i → rnd b x u ≤ i
    joined_by = rounds_up_to i hi below

    joined_v : rnd b x v ≤ i
    joined_v = joined_by v h (omega (arith, facts'.joined_first v h))

    -- A rock that the new load of v does not leave room for, inside the new conflict set.
    critical_case : (e : ℕ) → e < b.jobs → touches b e v ≡ true → rnd' (other b e v) ≤ i → b.bound < own' v + b.weight e → lev b x v ≤ i
    critical_case e he t there over =
        critical_after i e v hi he h t joined_v (joined_by (other b e v) (other-below b ok e v he t) there) over

    overloaded_case : b.bound < load (rearranged b own' place') x'.dir v → lev b x v ≤ i
    overloaded_case over =
        ⊎_elim
        (λ own.
        ⊎_elim (λ q. let own* : b.bound < own' v* = rw (← q) own in absurd (omega (arith, move.own_moved, fits*)))
        (λ ne. omega (arith, own_overloaded b ok x facts v h (omega (arith, move.own_kept v h ne))))
        (eq-or-ne v v*))
        (λ r.
        let first = tail_first (rearranged b own' place') ok' x' facts' r.0 v r.1 h r.2 r.3 in
        critical_case r.0 r.1 r.2 (omega (arith, facts'.joined_first v h)) r.4)
        (facts'.overloaded_cause v h over)

    -- The four reasons for a level (E7); a bench that Rule 2 activated has its neighbour's level by the order of activation.
    level_step : ((u : ℕ) → facts'.rank u < facts'.rank v → u < b.benches → lev' u ≤ i → lev b x u ≤ i) → lev b x v ≤ i
    level_step earlier =
        ⊎_elim (λ r. overloaded_case r.1)
        (⊎_elim (λ r. reached_level i hi below r.0 v r.1 r.2 (omega (arith, r.4)) r.3)
        (⊎_elim
        (λ r. critical_case r.0 r.1 (and_left (touches b r.0 v) (towards x'.dir r.0 (other b r.0 v)) r.2) (omega (arith, r.3)) r.4)
        (λ r.
        let near = earlier (other b r.0 v) r.5 (other-below b ok r.0 v r.1 r.2) (omega (arith, r.4)) in
        facts.rule_two i r.0 v hi r.1 h r.2 r.3 joined_v near)))
        (facts'.level_cause v h (omega arith))

  levels_up_to : (i : ℕ) → i ≤ b.benches → (v : ℕ) → v < b.benches → lev' v ≤ i → lev b x v ≤ i
  levels_up_to =
      strong_induction (λ i. i ≤ b.benches → (v : ℕ) → v < b.benches → lev' v ≤ i → lev b x v ≤ i)
      (λ i ih hi.
      let below : Below i = λ k lk. ih k lk (omega arith) in
      measure_induction facts'.rank (λ v. v < b.benches → lev' v ≤ i → lev b x v ≤ i) (λ v earlier h l. level_step i hi below v h l earlier))

  rearranged-kept : LevelsKept b x (rearranged b own' place') x'
  rearranged-kept =
      record {
        rounds = λ v h.
            ⊎_elim
            (λ l. rounds_up_to (rnd' v) (omega arith) (λ k lk. levels_up_to k (omega arith)) v h (omega arith))
            (λ l. omega (arith, facts.joined_bound v h))
            (lt-or-le (rnd' v) (never b));
        levels = λ v h.
            ⊎_elim (λ l. levels_up_to (lev' v) (omega arith) v h (omega arith)) (λ l. omega (arith, facts.level_bound v h))
            (lt-or-le (lev' v) (never b));
      }

-- By strong induction on i: what the new exploration has in conflict, or active, by round i, the old one had too. The benches that joined after
-- round i in the old exploration are safe for the new loads, and nothing of a lower new level can reach them; so E4 of the new exploration
-- keeps them outside. For the levels go through the reasons of E7.
pub levels_kept : (b : Board) → SoundBoard b → (x : Explored) → Facts b x → (o : ℕ → ℕ) → Spread b o
    → (a v* : ℕ) → a < b.jobs → v* < b.benches → can_push b x a v* ≡ true
    → (b' : Board) → MoveOf b b' a v* → SoundBoard b' → (x' : Explored) → Facts b' x' → LevelsKept b x b' x'
levels_kept b ok x facts o spread a v* ha hv push b' move ok' x' facts' =
    subst (λ (c : Board). MoveOf b c a v* → SoundBoard c → Facts c x' → LevelsKept b x c x') (sym move.rest)
    (λ m k f. rearranged-kept b ok x facts o spread a v* ha hv (push_allowed b x a v* push) b'.own b'.place m k x' f)
    move ok' facts'
