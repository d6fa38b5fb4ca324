-- One pass over the rocks finds the lowest bench, and then the lowest job, that a definition asks for.
--     lowest-least     the lowest end that P holds of is the least bench at which some rock has P
--     board-any        some rock at a bench has P: some job there has Q
--     board_lowest     lowest-least over the jobs of a board
--     board_first      the first rock at a bench is the lowest job there
use Prim.Native.Nat.{ℕ, zero, suc, ◌≤◌, ◌<◌}
use mathlib.Core.Path.{◌≡◌, refl, sym, ap, subst, ◌∙◌}
use mathlib.Core.Bool.{Bool, true, false, ◌&&◌, ◌||◌}
use mathlib.Core.Logic.{◌⊎◌, inl, inr, ⊎_elim}
use mathlib.Core.List.{List}
use native.Mathlib.Omega.{arith}
use lib.ListN.{get_or}
use lib.Dec.{eqb, ltb}
use borrow.Author.Tests.{eq-eqb, eqb-true}
use Rattle.bools.proofs.BoolLaws.{split, clash, tests, and_intro, and_left, and_right, or_left, or_right, or_elim}
use Rattle.bools.proofs.OrderLaws.{last_or_below}
use Rattle.sums.specs.Search.{any, least}
use Rattle.sums.proofs.SearchLaws.{any_cong, any-least, least-found, least-none, least-holds, least-before, least_cong}
use Rattle.sums.proofs.MembersLaws.{member_below, member_holds, any-members, least-members-at}
use Rattle.rocks.specs.declared.rocks.Limits.{Limits}
use Rattle.algorithm.specs.Board.{Board, touches}
use Rattle.rocks.specs.RockArrays.{lowest_end, touches_at}
use Rattle.arrays.specs.Arrays.{lower_of}
use Rattle.rocks.specs.BoardArrays.{rocks_of, rock_at, Rocks}

pub and_assoc : (a b c : Bool) → ((a && b) && c) ≡ (a && (b && c))
and_assoc true b c = refl
and_assoc false b c = refl

-- ── the lower of two ──

-- v is where f holds first, below m, and m where it holds nowhere.
record First (m : ℕ) (f : ℕ → Bool) (v : ℕ) : Type 0 where
  pub within : v ≤ m
  pub here : v < m → f v ≡ true
  pub before : (i : ℕ) → i < v → f i ≡ false

first-least : (m : ℕ) (f : ℕ → Bool) (v : ℕ) → First m f v → v ≡ least m f
first-least m f v F = elim (last_or_below {i = v} {n = m} (omega (arith, F.within))) [
  | inl e ↦ e ∙ sym (least-none m f (λ k h. F.before k (omega arith)))
  | inr h ↦ sym (least-found m f v h (F.here h) F.before)
]

first_lower : (m : ℕ) (f g : ℕ → Bool) (v u : ℕ) (c : Bool) → First m f v → u < m → (c ≡ true → g u ≡ true)
    → ((i : ℕ) → i < m → f i ≡ true → g i ≡ true)
    → ((i : ℕ) → i < m → g i ≡ true → (f i ≡ true) ⊎ ((i ≡ u) × (c ≡ true)))
    → First m g (lower_of c u v)
first_lower m f g v u false F h good more less =
    record {
      within = F.within;
      here = λ l. more v l (F.here l);
      before = λ i l. elim (split (g i)) [
        | inl p ↦ elim (less i (omega (arith, F.within)) p) [ inl q ↦ clash q (F.before i l) | inr (e, t) ↦ clash {b = true} refl (sym t) ]
        | inr p ↦ p
      ];
    }
first_lower m f g v u true F h good more less = elim (split (ltb u v)) [
  | inl p ↦ rw p (
      record {
        within = omega (tests, F.within);
        here = λ k. good refl;
        before = λ i k. elim (split (g i)) [
          | inl q ↦ elim (less i (omega arith) q) [ inl s ↦ clash s (F.before i (omega tests)) | inr (e, t) ↦ absurd (omega arith) ]
          | inr q ↦ q
        ];
      })
  | inr p ↦ rw p (
      record {
        within = F.within;
        here = λ l. more v l (F.here l);
        before = λ i k. elim (split (g i)) [
          | inl q ↦ elim (less i (omega (arith, F.within)) q) [ inl s ↦ clash s (F.before i k) | inr (e, t) ↦ absurd (omega tests) ]
          | inr q ↦ q
        ];
      })
]

-- ── one pass over the rocks ──

module _ (m : ℕ) (low high : List ℕ) (P : ℕ → ℕ → Bool) where
  abbrev at : ℕ → ℕ → Bool
  at v r = touches_at low high r v && P r v

  found : (k : ℕ) → ((r : ℕ) → r < k → (get_or low r 0 < m) × (get_or high r 0 < m)) → First m (λ v. any k (at v)) (lowest_end m k low high P)
  unfolding lowest_end
  found zero ends = record { within = omega arith; here = λ l. absurd (omega arith); before = λ i l. refl }
  found (suc k) ends =
      let lo = get_or low k 0 in
      let hi = get_or high k 0 in
      let e = ends k (omega arith) in
      let middle : ℕ → Bool = λ v. any k (at v) || (eqb v lo && P k lo) in
      first_lower m middle (λ v. any (suc k) (at v)) (lower_of (P k lo) lo (lowest_end m k low high P)) hi (P k hi)
      (first_lower m (λ v. any k (at v)) middle (lowest_end m k low high P) lo (P k lo) (found k (λ r l. ends r (omega arith))) e.0
      (λ c. or_right (any k (at lo)) (and_intro (eq-eqb lo lo refl) c))
      (λ i l p. or_left (eqb i lo && P k lo) p)
      (λ i l p. ⊎_elim (λ q. inl q) (λ q. inr (eqb-true i lo (and_left (eqb i lo) (P k lo) q), and_right (eqb i lo) (P k lo) q)) (or_elim (any k (at i)) (eqb i lo && P k lo) p)))
      e.1
      (λ c. or_right (any k (at hi)) (and_intro (or_right (eqb hi lo) (eq-eqb hi hi refl)) c))
      (λ i l p. ⊎_elim (λ q. or_left (at i k) q)
      (λ q. let same = eqb-true i lo (and_left (eqb i lo) (P k lo) q) in
      or_right (any k (at i)) (and_intro (or_left (eqb i hi) (and_left (eqb i lo) (P k lo) q)) (ap (P k) same ∙ and_right (eqb i lo) (P k lo) q)))
      (or_elim (any k (at i)) (eqb i lo && P k lo) p))
      (λ i l p. ⊎_elim (λ q. inl (or_left (eqb i lo && P k lo) q))
      (λ q. ⊎_elim
      (λ s. inl (or_right (any k (at i)) (and_intro s (ap (P k) (sym (eqb-true i lo s)) ∙ and_right (touches_at low high k i) (P k i) q))))
      (λ s. let same = eqb-true i hi s in inr (same, ap (P k) (sym same) ∙ and_right (touches_at low high k i) (P k i) q))
      (or_elim (eqb i lo) (eqb i hi) (and_left (touches_at low high k i) (P k i) q)))
      (or_elim (any k (at i)) (at i k) p))

  pub lowest-least : (k : ℕ) → ((r : ℕ) → r < k → (get_or low r 0 < m) × (get_or high r 0 < m)) → lowest_end m k low high P ≡ least m (λ v. any k (at v))
  lowest-least k ends = first-least m (λ v. any k (at v)) (lowest_end m k low high P) (found k ends)

-- ── over the jobs of a board ──

module _ (b : Board) (n : Limits) (low high weight : List ℕ) (R : Rocks b n low high weight) where
  pub rock_below : (r : ℕ) → r < rocks_of b → rock_at b r < b.jobs
  rock_below r h = member_below b.jobs b.rock r 0 h

  pub rock_holds : (r : ℕ) → r < rocks_of b → b.rock (rock_at b r) ≡ true
  rock_holds r h = member_holds b.jobs b.rock r 0 h

  pub low_below : (r : ℕ) → r < rocks_of b → get_or low r 0 < b.benches
  low_below r h =
      let j = rock_at b r in
      omega (arith, R.lows r h, R.sound.ends_differ j (rock_below r h) (rock_holds r h), R.sound.ends_below j (rock_below r h) (rock_holds r h))

  pub high_below : (r : ℕ) → r < rocks_of b → get_or high r 0 < b.benches
  high_below r h = let j = rock_at b r in omega (arith, R.highs r h, R.sound.ends_below j (rock_below r h) (rock_holds r h))

  pub touches_at_lem : (r v : ℕ) → r < rocks_of b → touches_at low high r v ≡ touches b (rock_at b r) v
  touches_at_lem r v h = rw (R.lows r h, R.highs r h, rock_holds r h)

  module _ (P Q : ℕ → ℕ → Bool) (same : (r v : ℕ) → r < rocks_of b → v < b.benches → touches b (rock_at b r) v ≡ true → P r v ≡ Q (rock_at b r) v) where
    abbrev there : ℕ → ℕ → Bool
    there v j = touches b j v && Q j v

    abbrev ends : ℕ → ℕ → Bool
    ends v j = (eqb v (b.low j) || eqb v (b.high j)) && Q j v

    at_same : (v r : ℕ) → v < b.benches → r < rocks_of b → (touches_at low high r v && P r v) ≡ ends v (rock_at b r)
    at_same v r l h =
        let t = touches_at_lem r v h in
        let inside : touches b (rock_at b r) v ≡ (eqb v (b.low (rock_at b r)) || eqb v (b.high (rock_at b r))) = rw (rock_holds r h) in
        elim (split (touches b (rock_at b r) v)) [
          | inl p ↦ let q : touches_at low high r v ≡ true = t ∙ p in
              let s : (eqb v (b.low (rock_at b r)) || eqb v (b.high (rock_at b r))) ≡ true = sym inside ∙ p in rw (q, s) (same r v h l p)
          | inr p ↦ let q : touches_at low high r v ≡ false = t ∙ p in
              let s : (eqb v (b.low (rock_at b r)) || eqb v (b.high (rock_at b r))) ≡ false = sym inside ∙ p in rw (q, s)
        ]

    pub board-any : (v : ℕ) → v < b.benches → any n.rocks (λ r. touches_at low high r v && P r v) ≡ any b.jobs (there v)
    board-any v l =
        rw R.rocks
        (any_cong (rocks_of b) (λ r. touches_at low high r v && P r v) (λ r. ends v (rock_at b r)) (λ r h. at_same v r l h)
        ∙ sym (any-members b.jobs b.rock (ends v) 0)
        ∙ any_cong b.jobs (λ j. b.rock j && ends v j) (there v) (λ j h. sym (and_assoc (b.rock j) (eqb v (b.low j) || eqb v (b.high j)) (Q j v))))

    pub board_lowest : lowest_end n.benches n.rocks low high P ≡ least b.benches (λ v. any b.jobs (there v))
    board_lowest =
        rw R.benches
        (lowest-least b.benches low high P n.rocks
        (λ r h. let l : r < rocks_of b = omega (arith, R.rocks) in (low_below r l, high_below r l))
        ∙ least_cong b.benches (λ v. any n.rocks (λ r. touches_at low high r v && P r v)) (λ v. any b.jobs (there v)) board-any)

    pub board_first : (v : ℕ) → v < b.benches → any b.jobs (there v) ≡ true
        → (r : ℕ) → r ≡ least n.rocks (λ i. touches_at low high i v && P i v) → (r < rocks_of b) × (rock_at b r ≡ least b.jobs (there v))
    board_first v l some r e =
        let k = rocks_of b in
        let near : ℕ → Bool = λ i. touches_at low high i v && P i v in
        let first : r ≡ least k near = e ∙ ap (λ (m : ℕ). least m near) R.rocks in
        let found : r < k = subst (λ (m : ℕ). m < k) (sym first) (any-least k near (subst (λ (m : ℕ). any m near ≡ true) R.rocks (board-any v l ∙ some))) in
        let holds : near r ≡ true = subst (λ (m : ℕ). near m ≡ true) (sym first) (least-holds k near (subst (λ (m : ℕ). m < k) first found)) in (
          found,
          sym
              (least_cong b.jobs (there v) (λ j. b.rock j && ends v j) (λ j h. and_assoc (b.rock j) (eqb v (b.low j) || eqb v (b.high j)) (Q j v))
              ∙ least-members-at b.jobs b.rock (ends v) 0 r found (sym (at_same v r l found) ∙ holds)
              (λ i h. sym (at_same v i l (omega arith)) ∙ least-before k near i (subst (λ (m : ℕ). i < m) first h))),
        )
