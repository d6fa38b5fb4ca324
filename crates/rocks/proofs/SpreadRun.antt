-- A set follows its closure under the neutral rocks, one rock after another.
--     widen_none, widen_more       a pass over the rocks, one rock more
--     linked_elim                  the rock that links two benches
--     widen_keeps, widen_both, widen_inside     a pass keeps the set, brings in both ends of each neutral rock with an
--                                  end in the set, and does not leave the closure
--     shows_entry, shows_cong      the benches of a set that is shown; another name for the same set
--     alone_shows                  a set of one bench
--     Spreading, spread_starts     what the passes keep, and how they begin
--     spread_goes_on, spread_ends, spread_spent    how they go on, and how they end
--     reach-shown                  so what spreads from one bench is what it reaches
use Prim.Native.Nat.{ℕ, zero, suc, ◌+◌, ◌≤◌, ◌<◌}
use mathlib.Core.Path.{◌≡◌, refl, sym, ap, ap₂, subst, ◌∙◌}
use mathlib.Core.Bool.{Bool, true, false, ◌&&◌, ◌||◌}
use mathlib.Core.Logic.{◌⊎◌, inl, inr, ⊎_elim, ◌≢◌}
use mathlib.Core.List.{List}
use native.Mathlib.Omega.{arith}
use native.Mathlib.Numerals.{add-one}
use lib.ListN.{get_or}
use lib.Dec.{eqb, ltb}
use borrow.Author.Tests.{eq-eqb, ne_eqb, eqb-true, lt-ltb, le-ltb, ltb-true}
use Rattle.bools.proofs.BoolLaws.{split, clash, and_intro, and_left, and_right, and-false_left, and-false_right, or_left, or_right, or_elim, bool_ext}
use Rattle.bools.proofs.OrderLaws.{eq-or-ne, last_or_below, lt-or-le}
use Rattle.sums.proofs.SearchLaws.{any_intro, any_elim}
use Rattle.bits.specs.Bits.{is_set}
use Rattle.bits.proofs.SetBits.{is_set-past, is_set-zero}
use Rattle.closure.specs.Closure.{iterate, grow, closure, reach}
use Rattle.closure.proofs.ClosureLaws.{grow_elim, closure-contains, closure-closed, closure-least, closure_cong}
use Rattle.rocks.specs.RockArrays.{touches_at, other_at}
use Rattle.rocks.specs.SpreadArrays.{neutral_rock, differ, crosses_at, join_of, widen_of, links_at, linked_at, Within, Shows}
use Rattle.rocks.proofs.RockLaws.{other_at_low, other_at_high}

-- ── whether exactly one of two holds ──

differ-one : (a b : Bool) → differ a b ≡ true → ((a ≡ true) × (b ≡ false)) ⊎ ((a ≡ false) × (b ≡ true))
differ-one true true e = clash e refl
differ-one true false e = inl (refl, refl)
differ-one false b e = inr (refl, e)

-- ── one pass ──

module _ (low high dir : List ℕ) where
  pub widen_none : (S : ℕ → Bool) (v : ℕ) → S v ≡ widen_of low high dir S 0 v
  unfolding widen_of
  widen_none S v = refl

  pub widen_more : (first set next r : ℕ) → (get_or low r 0 < 64) × (get_or high r 0 < 64)
      → ((v : ℕ) → v < 64 → is_set 64 set v ≡ widen_of low high dir (is_set 64 first) r v)
      → ((v : ℕ) → v < 64 → is_set 64 next v ≡ join_of low high dir (is_set 64 set) r v)
      → (v : ℕ) → v < 64 → is_set 64 next v ≡ widen_of low high dir (is_set 64 first) (r + 1) v
  unfolding widen_of
  widen_more first set next r (lo, hi) before step v h =
      rw add-one (step v h
      ∙ ap₂ (λ (x y : Bool). x || (y && touches_at low high r v)) (before v h)
      (ap₂ (λ (x y : Bool). neutral_rock dir r && differ x y) (before (get_or low r 0) lo) (before (get_or high r 0) hi)))

-- ── what the rocks link ──

-- u and v are the two ends of rock r.
abbrev Ends : List ℕ → List ℕ → ℕ → ℕ → ℕ → Type 0
Ends low high r u v = ((u ≡ get_or low r 0) × (v ≡ get_or high r 0)) ⊎ ((u ≡ get_or high r 0) × (v ≡ get_or low r 0))

module _ (rocks : ℕ) (low high dir : List ℕ) where
  linked_up : (r : ℕ) → r < rocks → neutral_rock dir r ≡ true → linked_at rocks low high dir (get_or low r 0) (get_or high r 0) ≡ true
  linked_up r h n =
      let lo = get_or low r 0 in
      let hi = get_or high r 0 in
      any_intro rocks (links_at low high dir lo hi) r h
      (and_intro (and_intro (or_left (eqb lo hi) (eq-eqb lo lo refl)) n) (eq-eqb hi (other_at low high r lo) (other_at_low low high r lo refl)))

  linked_down : (r : ℕ) → r < rocks → neutral_rock dir r ≡ true → linked_at rocks low high dir (get_or high r 0) (get_or low r 0) ≡ true
  linked_down r h n =
      let lo = get_or low r 0 in
      let hi = get_or high r 0 in
      let far : lo ≡ other_at low high r hi = ⊎_elim
      (λ (e : hi ≡ lo). sym e ∙ other_at_low low high r hi e) (λ (ne : hi ≢ lo). other_at_high low high r hi ne) (eq-or-ne hi lo) in
      any_intro rocks (links_at low high dir hi lo) r h
      (and_intro (and_intro (or_right (eqb hi lo) (eq-eqb hi hi refl)) n) (eq-eqb lo (other_at low high r hi) far))

  linked_elim : (u v : ℕ) → linked_at rocks low high dir u v ≡ true
      → (r : ℕ) × (r < rocks) × (neutral_rock dir r ≡ true) × Ends low high r u v
  linked_elim u v p =
      let (r, h, q) = any_elim rocks (links_at low high dir u v) p in
      let both = and_left (touches_at low high r u && neutral_rock dir r) (eqb v (other_at low high r u)) q in
      let t = and_left (touches_at low high r u) (neutral_rock dir r) both in
      let far = eqb-true v (other_at low high r u) (and_right (touches_at low high r u && neutral_rock dir r) (eqb v (other_at low high r u)) q) in (
        r,
        h,
        and_right (touches_at low high r u) (neutral_rock dir r) both,
        elim (eq-or-ne u (get_or low r 0)) [
          | inl e ↦ inl (e, far ∙ sym (other_at_low low high r u e))
          | inr ne ↦ elim (or_elim (eqb u (get_or low r 0)) (eqb u (get_or high r 0)) t) [
            | inl e ↦ absurd (ne (eqb-true u (get_or low r 0) e))
            | inr e ↦ inr (eqb-true u (get_or high r 0) e, far ∙ sym (other_at_high low high r u ne))
          ]
        ],
      )

-- ── what a pass does to a set ──

module _ (low high dir : List ℕ) (S : ℕ → Bool) where
  widen_keeps : (k v : ℕ) → S v ≡ true → widen_of low high dir S k v ≡ true
  unfolding widen_of
  widen_keeps zero v p = p
  widen_keeps (suc k) v p =
      let T = widen_of low high dir S k in or_left (crosses_at low high dir T k && touches_at low high k v) (widen_keeps k v p)

  -- Both ends of a neutral rock are in the set, once one of them is.
  join_both : (T : ℕ → Bool) (r u v : ℕ) → neutral_rock dir r ≡ true → Ends low high r u v
      → T u ≡ true → join_of low high dir T r v ≡ true
  join_both T r u v n ends p = elim (split (T v)) [
    | inl q ↦ or_left (crosses_at low high dir T r && touches_at low high r v) q
    | inr q ↦ or_right (T v) (elim ends [
      | inl (a, z) ↦
          and_intro (and_intro n (ap₂ differ (ap T (sym a) ∙ p) (ap T (sym z) ∙ q))) (or_right (eqb v (get_or low r 0)) (eq-eqb v (get_or high r 0) z))
      | inr (a, z) ↦
          and_intro (and_intro n (ap₂ differ (ap T (sym z) ∙ q) (ap T (sym a) ∙ p))) (or_left (eqb v (get_or high r 0)) (eq-eqb v (get_or low r 0) z))
    ])
  ]

  widen_both : (k r u v : ℕ) → r < k → neutral_rock dir r ≡ true → Ends low high r u v
      → S u ≡ true → widen_of low high dir S k v ≡ true
  unfolding widen_of
  widen_both zero r u v l n ends p = absurd (omega arith)
  widen_both (suc k) r u v l n ends p =
      let T = widen_of low high dir S k in
      elim (last_or_below {i = r} {n = k} l) [
        | inl same ↦ subst (λ (i : ℕ). join_of low high dir T i v ≡ true) same (join_both T r u v n ends (widen_keeps k u p))
        | inr below ↦ or_left (crosses_at low high dir T k && touches_at low high k v) (widen_both k r u v below n ends p)
      ]

-- ── sets that are shown ──

pub shows_entry : (m : ℕ) (S : ℕ → Bool) (set : ℕ) → Shows m S set → (v : ℕ) → v < m → is_set 64 set v ≡ S v
shows_entry m S set X v l = X.entries v ∙ ap (λ (b : Bool). b && S v) (lt-ltb v m l)

shows_cong : (m : ℕ) (S T : ℕ → Bool) (set : ℕ) → ((v : ℕ) → v < m → S v ≡ T v) → Shows m S set → Shows m T set
shows_cong m S T set same X =
    record {
      room = X.room;
      entries = λ v. X.entries v ∙ elim (lt-or-le v m) [
        | inl l ↦ ap (λ (b : Bool). ltb v m && b) (same v l)
        | inr l ↦ let out = le-ltb v m l in and-false_left (S v) out ∙ sym (and-false_left (T v) out)
      ];
    }

-- One bench, put into an empty set.
alone_shows : (m v set : ℕ) → v < m → m ≤ 64 → ((u : ℕ) → u < 64 → is_set 64 set u ≡ (is_set 64 0 u || eqb u v)) → Shows m (λ u. eqb u v) set
alone_shows m v set hv few e =
    record {
      room = few;
      entries = λ u. elim (lt-or-le u 64) [
        | inl l ↦ e u l ∙ ap (λ (b : Bool). b || eqb u v) (is_set-zero 64 u) ∙ elim (eq-or-ne u v) [
          | inl q ↦ sym (ap (λ (b : Bool). b && eqb u v) (lt-ltb u m (omega arith)))
          | inr ne ↦ ne_eqb u v ne ∙ sym (and-false_right (ltb u m) (ne_eqb u v ne))
        ]
        | inr l ↦ is_set-past 64 set u l ∙ sym (and-false_left (eqb u v) (le-ltb u m (omega arith)))
      ];
    }

-- ── the passes ──

-- A neutral rock with an end in the set brings in the other end when its turn comes, whatever the rocks before it brought.
-- So a pass gives at least a round of growth, and never leaves the closure. After m passes the set has what m rounds give,
-- which is the closure; and where a pass adds nothing, the set has what it is linked to, so it is the closure already.
module _ (m rocks : ℕ) (low high dir : List ℕ) (ends : Within m rocks low high) (S : ℕ → Bool) where
  abbrev whole : ℕ → Bool
  whole = closure m (linked_at rocks low high dir) S

  abbrev Inside : (ℕ → Bool) → Type 0
  Inside T = (v : ℕ) → T v ≡ true → (v < m) × (whole v ≡ true)

  -- Both ends of a rock that crosses are in the closure.
  both-whole : (T : ℕ → Bool) (r : ℕ) → r < rocks → Inside T → crosses_at low high dir T r ≡ true → (whole (get_or low r 0) ≡ true) × (whole (get_or high r 0) ≡ true)
  both-whole T r h I x =
      let lo = get_or low r 0 in
      let hi = get_or high r 0 in
      let (l, g) = ends r h in
      let n = and_left (neutral_rock dir r) (differ (T lo) (T hi)) x in
      elim (differ-one (T lo) (T hi) (and_right (neutral_rock dir r) (differ (T lo) (T hi)) x)) [
        | inl (p, q) ↦ let w = (I lo p).1 in (w, closure-closed m (linked_at rocks low high dir) S lo hi l g w (linked_up rocks low high dir r h n))
        | inr (p, q) ↦ let w = (I hi q).1 in (closure-closed m (linked_at rocks low high dir) S hi lo g l w (linked_down rocks low high dir r h n), w)
      ]

  join_inside : (T : ℕ → Bool) (r : ℕ) → r < rocks → Inside T → Inside (join_of low high dir T r)
  join_inside T r h I v p = elim (or_elim (T v) (crosses_at low high dir T r && touches_at low high r v) p) [
    | inl q ↦ I v q
    | inr q ↦
        let w = both-whole T r h I (and_left (crosses_at low high dir T r) (touches_at low high r v) q) in
        elim (or_elim (eqb v (get_or low r 0)) (eqb v (get_or high r 0)) (and_right (crosses_at low high dir T r) (touches_at low high r v) q)) [
          | inl e ↦ let at = eqb-true v (get_or low r 0) e in (omega (arith, at, (ends r h).0), ap whole at ∙ w.0)
          | inr e ↦ let at = eqb-true v (get_or high r 0) e in (omega (arith, at, (ends r h).1), ap whole at ∙ w.1)
        ]
  ]

  widen_inside : (T : ℕ → Bool) → Inside T → (k : ℕ) → k ≤ rocks → Inside (widen_of low high dir T k)
  unfolding widen_of
  widen_inside T I zero l = I
  widen_inside T I (suc k) l = join_inside (widen_of low high dir T k) k (omega arith) (widen_inside T I k (omega arith))

  -- A set in the closure that has all of it is the closure.
  whole-shown : (set : ℕ) → m ≤ 64 → Inside (is_set 64 set) → ((v : ℕ) → v < m → whole v ≡ true → is_set 64 set v ≡ true) → Shows m whole set
  whole-shown set room inside has =
      record {
        room = room;
        entries = λ v. bool_ext (is_set 64 set v) (ltb v m && whole v) (λ p. let (l, w) = inside v p in and_intro (lt-ltb v m l) w)
            (λ p. has v (ltb-true v m (and_left (ltb v m) (whole v) p)) (and_right (ltb v m) (whole v) p));
      }

  -- The set is in the closure, and has what as many rounds of growth give as there were passes.
  pub record Spreading (passes set : ℕ) : Type 0 where
    pub room : m ≤ 64
    pub inside : Inside (is_set 64 set)
    pub holds : (v : ℕ) → v < m → S v ≡ true → is_set 64 set v ≡ true
    pub grown : (v : ℕ) → v < m → iterate passes (grow m (linked_at rocks low high dir)) S v ≡ true → is_set 64 set v ≡ true

  pub spread_starts : (set : ℕ) → Shows m S set → Spreading 0 set
  spread_starts set X =
      let has : (v : ℕ) → v < m → S v ≡ true → is_set 64 set v ≡ true = λ v l p. X.entries v ∙ and_intro (lt-ltb v m l) p in
      record {
        room = X.room;
        inside = λ v p. let both : (ltb v m && S v) ≡ true = sym (X.entries v) ∙ p in
            (ltb-true v m (and_left (ltb v m) (S v) both), closure-contains m (linked_at rocks low high dir) S v (and_right (ltb v m) (S v) both));
        holds = has;
        grown = has;
      }

  module _ (passes set wider : ℕ) (X : Spreading passes set)
      (pass : Within 64 rocks low high → (v : ℕ) → v < 64 → is_set 64 wider v ≡ widen_of low high dir (is_set 64 set) rocks v) where
    in_room : Within 64 rocks low high
    in_room r h = (omega (arith, (ends r h).0, X.room), omega (arith, (ends r h).1, X.room))

    is_wider : (v : ℕ) → v < m → is_set 64 wider v ≡ widen_of low high dir (is_set 64 set) rocks v
    is_wider v l = pass in_room v (omega (arith, X.room))

    pass_inside : Inside (is_set 64 wider)
    pass_inside v p = elim (lt-or-le v 64) [
      | inl l ↦ widen_inside (is_set 64 set) X.inside rocks (omega arith) v (sym (pass in_room v l) ∙ p)
      | inr l ↦ clash p (is_set-past 64 wider v l)
    ]

    pass_keeps : (v : ℕ) → v < m → is_set 64 set v ≡ true → is_set 64 wider v ≡ true
    pass_keeps v l p = is_wider v l ∙ widen_keeps low high dir (is_set 64 set) rocks v p

    -- What is linked to the set is in the set after the pass.
    pass_links : (u v : ℕ) → v < m → is_set 64 set u ≡ true → linked_at rocks low high dir u v ≡ true → is_set 64 wider v ≡ true
    pass_links u v l p t =
        let (r, h, n, either) = linked_elim rocks low high dir u v t in
        is_wider v l ∙ widen_both low high dir (is_set 64 set) rocks r u v h n either p

    pub spread_goes_on : Spreading (passes + 1) wider
    spread_goes_on =
        record {
          room = X.room;
          inside = pass_inside;
          holds = λ v l p. pass_keeps v l (X.holds v l p);
          grown = λ v l p. elim (grow_elim m (linked_at rocks low high dir) (iterate passes (grow m (linked_at rocks low high dir)) S) v (rw add-one at p)) [
            | inl q ↦ pass_keeps v l (X.grown v l q)
            | inr (u, h, q, t) ↦ pass_links u v l (X.grown u h q) t
          ];
        }

    pub spread_ends : wider ≡ set → Shows m whole set
    spread_ends same =
        whole-shown set X.room X.inside
        (closure-least m (linked_at rocks low high dir) S (λ u. is_set 64 set u ≡ true) X.holds
        (λ u w hu hw q t. ap (λ (x : ℕ). is_set 64 x w) (sym same) ∙ pass_links u w hw q t))

  pub spread_spent : {passes set : ℕ} → Spreading passes set → m ≡ passes → Shows m whole set
  unfolding closure
  spread_spent {passes} {set} X all =
      whole-shown set X.room X.inside
      (λ v l p. X.grown v l (subst (λ (i : ℕ). iterate i (grow m (linked_at rocks low high dir)) S v ≡ true) all p))

-- What spreads from one bench among the first k is what it reaches.
pub reach-shown : (m k rocks : ℕ) (low high dir : List ℕ) (R : ℕ → ℕ → Bool) → m ≡ k → k ≤ 64 → Within m rocks low high
    → ((u v : ℕ) → u < k → v < k → linked_at rocks low high dir u v ≡ R u v)
    → (v one set : ℕ) → v < k → ((u : ℕ) → u < 64 → is_set 64 one u ≡ (is_set 64 0 u || eqb u v))
    → ((S : ℕ → Bool) → Within m rocks low high → Shows m S one → Shows m (closure m (linked_at rocks low high dir) S) set)
    → Shows k (reach k R v) set
unfolding reach
reach-shown m k rocks low high dir R e few ends same v one set hv alone spreads =
    let first : ℕ → Bool = λ u. eqb u v in
    let found = spreads first ends (alone_shows m v one (omega arith) (omega arith) alone) in
    shows_cong k (closure k (linked_at rocks low high dir) first) (closure k R first) set
    (closure_cong k (linked_at rocks low high dir) R first first same (λ u h. refl))
    (subst (λ (i : ℕ). Shows i (closure i (linked_at rocks low high dir) first) set) e found)
