-- Graphs on the numbers below m, whose edges are named by the numbers below n: edge j, where r j is true, joins lo j to hi j. Two edges
-- may join the same pair.
--     Graph m n r lo hi R     edges join two different numbers below m, and R says which numbers some edge joins
--     Joins lo hi j u w       edge j joins u and w
--     inside r lo hi Y j      edge j has both ends in Y: inside-edge, inside-low, inside-high say so of its parts
--     edges n r lo hi Y       how many edges have
--     low_below               the low end of an edge is below m too
--     edges_mono, edges-fewer     more numbers, and more edges, give a greater count
--     edges-add               one number more, with an edge to it
--     joined_symmetric, reach-symmetric     edges and ways lead back
--     component_closed        an edge with one end in a component lies inside it
--     component_same          the component of a number is that of each of its numbers
--     component-edges         its edges are those with their low end in it
--     crossing_edge           a part of a component that no edge leaves is all of it
--     edges-grow              e(Y) + |K| ≤ e(K) + |Y| for a non-empty part Y of a component K
--     tree-edges              e(Y) + 1 ≤ |Y| for a non-empty part Y of a component with fewer edges than numbers
--     sparse                  e(Y) ≤ |Y| for every Y, where no component has more edges than numbers
use Prim.Native.Nat.{ℕ, zero, suc, ◌+◌, ◌≤◌, ◌<◌}
use mathlib.Core.Path.{◌≡◌, refl, sym, ◌∙◌}
use mathlib.Core.Logic.{◌⊎◌, inl, inr}
use mathlib.Core.Bool.{Bool, true, false, not, ◌&&◌, ◌||◌}
use native.Mathlib.Omega.{arith}
use lib.Dec.{eqb}
use borrow.Author.Tests.{eq-eqb, eqb-true}
use Rattle.bools.proofs.BoolLaws.{split, clash, and_intro, and_left, and_right, and-false_left, and-false_right}
use Rattle.bools.proofs.BoolLaws.{or_left, or_right, or_elim, not_intro_true, not_intro_false, not-true, bool_ext}
use Rattle.bools.proofs.OrderLaws.{lt-or-le}
use Rattle.sums.specs.Sum.{count}
use Rattle.sums.specs.Search.{any}
use Rattle.sums.proofs.SearchLaws.{any_elim, any_none}
use Rattle.sums.proofs.CountLaws.{count_cong, count_mono, count-strict, count-insert, count-pos_elim, count-union, count_add, count_none, count-zero}
use Rattle.closure.specs.Closure.{reach}
use Rattle.closure.proofs.ClosureLaws.{reach_refl, reach-next, reach-least, reach_trans}

-- Edge j joins u and w.
abbrev pub Joins : (ℕ → ℕ) → (ℕ → ℕ) → ℕ → ℕ → ℕ → Type 0
Joins lo hi j u w = ((u ≡ lo j) × (w ≡ hi j)) ⊎ ((u ≡ hi j) × (w ≡ lo j))

pub record Graph (m n : ℕ) (r : ℕ → Bool) (lo hi : ℕ → ℕ) (R : ℕ → ℕ → Bool) : Type 0 where
  pub apart : (j : ℕ) → j < n → r j ≡ true → lo j < hi j
  pub below : (j : ℕ) → j < n → r j ≡ true → hi j < m
  pub joins : (j : ℕ) → j < n → r j ≡ true → (R (lo j) (hi j) ≡ true) × (R (hi j) (lo j) ≡ true)
  pub joined_by : (u w : ℕ) → u < m → w < m → R u w ≡ true → (j : ℕ) × (j < n) × (r j ≡ true) × Joins lo hi j u w

abbrev pub inside : (ℕ → Bool) → (ℕ → ℕ) → (ℕ → ℕ) → (ℕ → Bool) → ℕ → Bool
inside r lo hi Y j = r j && Y (lo j) && Y (hi j)

abbrev pub edges : ℕ → (ℕ → Bool) → (ℕ → ℕ) → (ℕ → ℕ) → (ℕ → Bool) → ℕ
edges n r lo hi Y = count n (inside r lo hi Y)

module _ (r : ℕ → Bool) (lo hi : ℕ → ℕ) (Y : ℕ → Bool) (j : ℕ) (p : inside r lo hi Y j ≡ true) where
  pub inside-edge : r j ≡ true
  inside-edge = and_left (r j) (Y (lo j)) (and_left (r j && Y (lo j)) (Y (hi j)) p)

  pub inside-low : Y (lo j) ≡ true
  inside-low = and_right (r j) (Y (lo j)) (and_left (r j && Y (lo j)) (Y (hi j)) p)

  pub inside-high : Y (hi j) ≡ true
  inside-high = and_right (r j && Y (lo j)) (Y (hi j)) p

pub edges-fewer : (n : ℕ) (r s : ℕ → Bool) (lo hi : ℕ → ℕ) (Y : ℕ → Bool) → ((j : ℕ) → j < n → r j ≡ true → s j ≡ true)
    → edges n r lo hi Y ≤ edges n s lo hi Y
edges-fewer n r s lo hi Y more =
    count_mono n (inside r lo hi Y) (inside s lo hi Y)
    (λ j h p. and_intro (and_intro (more j h (inside-edge r lo hi Y j p)) (inside-low r lo hi Y j p)) (inside-high r lo hi Y j p))

module _ (m n : ℕ) (r : ℕ → Bool) (lo hi : ℕ → ℕ) (R : ℕ → ℕ → Bool) (G : Graph m n r lo hi R) where
  pub low_below : (j : ℕ) → j < n → r j ≡ true → lo j < m
  low_below j h p = omega (arith, G.apart j h p, G.below j h p)

  pub edges_mono : (X Y : ℕ → Bool) → ((v : ℕ) → v < m → X v ≡ true → Y v ≡ true) → edges n r lo hi X ≤ edges n r lo hi Y
  edges_mono X Y more =
      count_mono n (inside r lo hi X) (inside r lo hi Y)
      (λ j h p. let e = inside-edge r lo hi X j p in
      and_intro (and_intro e (more (lo j) (low_below j h e) (inside-low r lo hi X j p))) (more (hi j) (G.below j h e) (inside-high r lo hi X j p)))

  pub joined_symmetric : (u w : ℕ) → u < m → w < m → R u w ≡ true → R w u ≡ true
  joined_symmetric u w hu hw p = let (j, h, e, ends) = G.joined_by u w hu hw p in back j h e ends
    where
      back : (j : ℕ) → j < n → r j ≡ true → Joins lo hi j u w → R w u ≡ true
      back j h e (inl q) = cc (q.0, q.1, (G.joins j h e).1)
      back j h e (inr q) = cc (q.0, q.1, (G.joins j h e).0)

  pub reach-symmetric : (u v : ℕ) → u < m → v < m → reach m R u v ≡ true → reach m R v u ≡ true
  reach-symmetric u v hu hv = reach-least m R u (λ w. reach m R w u ≡ true) (reach_refl m R u)
      (λ w x hw hx p q. reach_trans m R x w u hu (reach-next m R x x w hx hw (reach_refl m R x) (joined_symmetric w x hw hx q)) p) v hv

  -- ── components ──

  module _ (v : ℕ) where
    pub component_closed : (j : ℕ) → j < n → r j ≡ true → reach m R v (lo j) ≡ reach m R v (hi j)
    component_closed j h e = bool_ext (reach m R v (lo j)) (reach m R v (hi j))
        (λ p. reach-next m R v (lo j) (hi j) (low_below j h e) (G.below j h e) p (G.joins j h e).0)
        (λ p. reach-next m R v (hi j) (lo j) (G.below j h e) (low_below j h e) p (G.joins j h e).1)

    pub component-edges : edges n r lo hi (reach m R v) ≡ count n (λ j. r j && reach m R v (lo j))
    component-edges = count_cong n (inside r lo hi (reach m R v)) (λ j. r j && reach m R v (lo j)) (λ j h. elim (split (r j)) [
      | inl e ↦ rw (← (component_closed j h e), e) (twice (reach m R v (lo j)))
      | inr e ↦ rw e
    ])
      where
        twice : (b : Bool) → (b && b) ≡ b
        twice true = refl
        twice false = refl

  pub component_same : (u v : ℕ) → u < m → v < m → reach m R u v ≡ true → (w : ℕ) → w < m → reach m R v w ≡ reach m R u w
  component_same u v hu hv p w hw = bool_ext (reach m R v w) (reach m R u w)
      (reach_trans m R u v w hw p) (reach_trans m R v u w hw (reach-symmetric u v hu hv p))

  -- ── growing ──

  module _ (v : ℕ) (Y : ℕ → Bool) (part : (u : ℕ) → u < m → Y u ≡ true → reach m R v u ≡ true) where
    leaves : ℕ → ℕ → Bool
    leaves u w = Y u && not (Y w) && R u w

    -- Where no edge leaves Y, none enters it: so the component lies in Y if v does, and outside Y if v does not.
    pub crossing_edge : (y : ℕ) → y < m → Y y ≡ true → v < m
        → ((u : ℕ) × (w : ℕ) × (u < m) × (w < m) × (Y u ≡ true) × (Y w ≡ false) × (R u w ≡ true))
        ⊎ ((u : ℕ) → u < m → reach m R v u ≡ true → Y u ≡ true)
    unfolding leaves
    crossing_edge y hy py hv = elim (split (any m (λ u. any m (leaves u)))) [
      | inl p ↦ let (u, hu, q) = any_elim m (λ u. any m (leaves u)) p in
          let (w, hw, t) = any_elim m (leaves u) q in
          let t' = and_left (Y u && not (Y w)) (R u w) t in
          inl (u, w, hu, hw, and_left (Y u) (not (Y w)) t', not-true (Y w) (and_right (Y u) (not (Y w)) t'), and_right (Y u && not (Y w)) (R u w) t)
      | inr p ↦ inr (elim (split (Y v)) [
        | inl yv ↦ reach-least m R v (λ u. Y u ≡ true) yv (closed p)
        | inr nv ↦ λ u hu q. clash py (reach-least m R v (λ x. Y x ≡ false) nv
            (λ x w hx hw nx e. elim (split (Y w)) [ inl yw ↦ clash (closed p w x hw hx yw (joined_symmetric x w hx hw e)) nx | inr nw ↦ nw ]) y hy (part y hy py))
      ])
    ]
      where
        closed : any m (λ u. any m (leaves u)) ≡ false → (u w : ℕ) → u < m → w < m → Y u ≡ true → R u w ≡ true → Y w ≡ true
        closed p u w hu hw yu e = elim (split (Y w)) [
          | inl yw ↦ yw
          | inr nw ↦ clash (and_intro (and_intro yu (not_intro_true nw)) e) (any_none m (leaves u) (any_none m (λ k. any m (leaves k)) p u hu) w hw)
        ]

  edges-add-edge : (Y : ℕ → Bool) (u w j : ℕ) → j < n → r j ≡ true → Joins lo hi j u w → Y u ≡ true → Y w ≡ false
      → suc (edges n r lo hi Y) ≤ edges n r lo hi (λ i. Y i || eqb i w)
  edges-add-edge Y u w j h p ends yu nw =
      let more : (i : ℕ) → Y i ≡ true → (Y i || eqb i w) ≡ true = λ i q. or_left (eqb i w) q in
      let new : (i : ℕ) → w ≡ i → (Y i || eqb i w) ≡ true = λ i q. or_right (Y i) (eq-eqb i w (sym q)) in
      count-strict n (inside r lo hi Y) (inside r lo hi (λ i. Y i || eqb i w)) j
      (λ i hi' q. and_intro (and_intro (inside-edge r lo hi Y i q) (more (lo i) (inside-low r lo hi Y i q))) (more (hi i) (inside-high r lo hi Y i q)))
      h
      (elim ends [
        | inl q ↦ and-false_right (r j && Y (lo j)) (cc (q.1, nw))
        | inr q ↦ and-false_left (Y (hi j)) (and-false_right (r j) (cc (q.1, nw)))
      ])
      (elim ends [
        | inl q ↦ and_intro (and_intro p (more (lo j) (cc (q.0, yu)))) (new (hi j) q.1)
        | inr q ↦ and_intro (and_intro p (new (lo j) q.1)) (more (hi j) (cc (q.0, yu)))
      ])

  -- An edge from Y to w outside Y: Y with w has one number more, and one edge more at least.
  pub edges-add : (Y : ℕ → Bool) (u w : ℕ) → u < m → w < m → Y u ≡ true → Y w ≡ false → R u w ≡ true
      → suc (edges n r lo hi Y) ≤ edges n r lo hi (λ i. Y i || eqb i w)
  edges-add Y u w hu hw yu nw e = let (j, h, p, ends) = G.joined_by u w hu hw e in edges-add-edge Y u w j h p ends yu nw

  -- One number after another: while Y is not all of the component, an edge leaves it.
  grow_from : (k v : ℕ) (Y : ℕ → Bool) → v < m → ((u : ℕ) → u < m → Y u ≡ true → reach m R v u ≡ true) → (y : ℕ) → y < m → Y y ≡ true
      → count m (reach m R v) ≤ count m Y + k → edges n r lo hi Y + count m (reach m R v) ≤ edges n r lo hi (reach m R v) + count m Y
  grow_from zero v Y hv part y hy py l = omega (arith, edges_mono Y (reach m R v) part)
  grow_from (suc k) v Y hv part y hy py l = elim (crossing_edge v Y part y hy py hv) [
    | inl (u, w, hu, hw, yu, nw, e) ↦
        let more = edges-add Y u w hu hw yu nw e in
        let one = count-insert m Y w hw nw in
        let ih = grow_from k v (λ i. Y i || eqb i w) hv
        (λ i hi' q. elim (or_elim (Y i) (eqb i w) q) [
          | inl a ↦ part i hi' a
          | inr a ↦ rw (eqb-true i w a) (reach-next m R v u w hu hw (part u hu yu) e)
        ])
        y hy (or_left (eqb y w) py) (omega arith)
        in
        omega arith
    | inr all ↦ omega (arith, edges_mono Y (reach m R v) part, count_mono m (reach m R v) Y all)
  ]

  module _ (v : ℕ) (hv : v < m) (Y : ℕ → Bool) (part : (u : ℕ) → u < m → Y u ≡ true → reach m R v u ≡ true) where
    pub edges-grow : (y : ℕ) → y < m → Y y ≡ true → edges n r lo hi Y + count m (reach m R v) ≤ edges n r lo hi (reach m R v) + count m Y
    edges-grow y hy py = grow_from (count m (reach m R v)) v Y hv part y hy py (omega arith)

    pub tree-edges : edges n r lo hi (reach m R v) < count m (reach m R v) → (y : ℕ) → y < m → Y y ≡ true → suc (edges n r lo hi Y) ≤ count m Y
    tree-edges less y hy py = omega (arith, edges-grow y hy py)

  -- ── every set ──

  module _ (few : (v : ℕ) → v < m → edges n r lo hi (reach m R v) ≤ count m (reach m R v)) where
    no_edge : (Y : ℕ → Bool) → count m Y ≡ 0 → edges n r lo hi Y ≡ 0
    no_edge Y e = count_none n (inside r lo hi Y) (λ j h. elim (split (inside r lo hi Y j)) [
      | inl p ↦ clash (inside-low r lo hi Y j p) (count-zero m Y e (lo j) (low_below j h (inside-edge r lo hi Y j p)))
      | inr p ↦ p
    ])

    module _ (Y : ℕ → Bool) (v : ℕ) (hv : v < m) (yv : Y v ≡ true) where
      abbrev here : ℕ → Bool
      here i = Y i && reach m R v i

      abbrev rest : ℕ → Bool
      rest i = Y i && not (reach m R v i)

      parts-count : count m here + count m rest ≡ count m Y
      parts-count = sym (count_add m here rest (λ i h p q.
          clash (and_right (Y i) (reach m R v i) p) (not-true (reach m R v i) (and_right (Y i) (not (reach m R v i)) q))))
          ∙ count_cong m (λ i. here i || rest i) Y (λ i h. whole (Y i) (reach m R v i))
        where
          whole : (a b : Bool) → ((a && b) || (a && not b)) ≡ a
          whole true true = refl
          whole true false = refl
          whole false b = refl

      parts-edges : edges n r lo hi Y ≤ edges n r lo hi here + edges n r lo hi rest
      parts-edges = omega (
        arith,
        count-union n (inside r lo hi here) (inside r lo hi rest),
        count_mono n (inside r lo hi Y) (λ j. inside r lo hi here j || inside r lo hi rest j) (λ j h p.
            let e = inside-edge r lo hi Y j p in
            let yl = inside-low r lo hi Y j p in
            let yh = inside-high r lo hi Y j p in
            let same = component_closed v j h e in
            elim (split (reach m R v (lo j))) [
              | inl q ↦ or_left (inside r lo hi rest j) (and_intro (and_intro e (and_intro yl q)) (and_intro yh (sym same ∙ q)))
              | inr q ↦ or_right (inside r lo hi here j)
                  (and_intro (and_intro e (and_intro yl (not_intro_true q))) (and_intro yh (not_intro_true (sym same ∙ q))))
            ]),
      )

      here-few : edges n r lo hi here ≤ count m here
      here-few = omega (arith, few v hv, edges-grow v hv here (λ u h p. and_right (Y u) (reach m R v u) p) v hv (and_intro yv (reach_refl m R v)))

      rest-less : count m rest < count m Y
      rest-less = count-strict m rest Y v (λ i h p. and_left (Y i) (not (reach m R v i)) p) hv
          (and-false_right (Y v) (not_intro_false (reach_refl m R v))) yv

    -- What lies in the component of one number of Y, and the rest of Y: no edge joins the two.
    sparse_from : (k : ℕ) (Y : ℕ → Bool) → count m Y ≤ k → edges n r lo hi Y ≤ count m Y
    sparse_from zero Y l = omega (arith, no_edge Y (omega arith))
    sparse_from (suc k) Y l = elim (lt-or-le 0 (count m Y)) [
      | inl some ↦ let (v, hv, yv) = count-pos_elim m Y some in
          omega (
            arith,
            parts-count Y v hv yv,
            parts-edges Y v hv yv,
            here-few Y v hv yv,
            sparse_from k (rest Y v hv yv) (omega (arith, rest-less Y v hv yv)),
          )
      | inr none ↦ omega (arith, no_edge Y (omega arith))
    ]

    pub sparse : (Y : ℕ → Bool) → edges n r lo hi Y ≤ count m Y
    sparse Y = sparse_from (count m Y) Y (omega arith)
