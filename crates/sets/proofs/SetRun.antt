-- Loops over the numbers of a set, the lowest first.
--     lowest-below      a set that is not empty has a lowest number
--     Searched          what a search keeps: g is false of every number of the set that is no longer left
--     searched_starts, searched_goes_on, searched_found, searched_none     how it starts, goes on and ends
--     Put, Joined       what a loop that writes to the entries of a set keeps, and one that joins them
--     Visited           what a loop through a set keeps of the numbers that it passed
use Prim.Native.Nat.{ℕ, ◌≤◌, ◌<◌, ◌^◌}
use mathlib.Core.List.{List}
use mathlib.Core.Path.{◌≡◌, refl, sym, ap, subst, ◌∙◌}
use mathlib.Core.Bool.{Bool, true, false, cond, not, ◌&&◌, ◌||◌}
use mathlib.Core.Logic.{inl, inr}
use native.Mathlib.Omega.{arith}
use lib.Bits.{bit_or}
use lib.Dec.{eqb, ltb}
use lib.ListN.{length, get_or, set, length-set}
use lib.Seq.{get_or-set_same, get_or-set_other}
use borrow.Author.Tests.{ne_eqb, lt-ltb, ltb-true}
use Rattle.bools.proofs.BoolLaws.{split, clash, and_intro, and_left, and_right, and-false_left, and-false_right, not_intro_true, or_left, or_right, bool_ext}
use Rattle.bools.proofs.OrderLaws.{eq-or-ne}
use Rattle.sums.specs.Search.{any, least}
use Rattle.sums.proofs.SearchLaws.{any_elim, any_intro, any-least, least-found, least-none}
use Rattle.bits.specs.Bits.{is_set}
use Rattle.bits.proofs.SetBits.{is_set-zero, any-is_set}
use Rattle.sets.specs.Sets.{lowest_of}
use Rattle.sets.proofs.SetLaws.{lowest_holds, lowest_before, or-is_set}

pub lowest-below : (s v : ℕ) → v ≡ lowest_of s → 0 < s → s < 2 ^ 64 → v < 64
unfolding lowest_of
lowest-below s v e some fits =
    let full : any 64 (is_set 64 s) ≡ true = any-is_set 64 s fits ∙ not_intro_true (ne_eqb s 0 (λ z. omega arith)) in
    omega (arith, any-least 64 (is_set 64 s) full, e)

module _ (all : ℕ) (g : ℕ → Bool) where
  pub record Searched (left : ℕ) : Type 0 where
    pub small : left ≤ all
    pub inside : (k : ℕ) → k < 64 → is_set 64 left k ≡ true → is_set 64 all k ≡ true
    pub passed : (k : ℕ) → k < 64 → is_set 64 all k ≡ true → is_set 64 left k ≡ false → g k ≡ false

  pub searched_starts : Searched all
  searched_starts = record { small = omega arith; inside = λ k h p. p; passed = λ k h p q. clash p q }

  module _ (left v : ℕ) (S : Searched left) (e : v ≡ lowest_of left) (h : v < 64) where
    pub searched_goes_on : (left' : ℕ) → ((u : ℕ) → u < 64 → is_set 64 left' u ≡ (is_set 64 left u && not (eqb u v))) → left' < left → g v ≡ false → Searched left'
    searched_goes_on left' same less none =
        record {
          small = omega (arith, S.small);
          inside = λ k l p. S.inside k l (and_left (is_set 64 left k) (not (eqb k v)) (sym (same k l) ∙ p));
          passed = λ k l p q. elim (eq-or-ne k v) [
            | inl at ↦ ap g at ∙ none
            | inr ne ↦ elim (split (is_set 64 left k)) [
              | inr out ↦ S.passed k l p out
              | inl in_left ↦ clash (same k l ∙ and_intro in_left (not_intro_true (ne_eqb k v ne))) q
            ]
          ];
        }

    before : (i : ℕ) → i < v → (is_set 64 all i && g i) ≡ false
    before i l = elim (split (is_set 64 all i)) [
      | inl p ↦ and-false_right (is_set 64 all i) (S.passed i (omega arith) p (lowest_before left v i e l))
      | inr p ↦ and-false_left (g i) p
    ]

    pub searched_found : g v ≡ true → v ≡ least 64 (λ k. is_set 64 all k && g k)
    searched_found holds =
        sym (least-found 64 (λ k. is_set 64 all k && g k) v h (and_intro (S.inside v h (lowest_holds left v e h)) holds) before)

  pub searched_none : (left : ℕ) → Searched left → left ≤ 0 → 64 ≡ least 64 (λ k. is_set 64 all k && g k)
  searched_none left S none =
      let e : left ≡ 0 = omega arith in
      sym (least-none 64 (λ k. is_set 64 all k && g k) (λ i l. elim (split (is_set 64 all i)) [
        | inl p ↦ and-false_right (is_set 64 all i) (S.passed i l p (ap (λ (m : ℕ). is_set 64 m i) e ∙ is_set-zero 64 i))
        | inr p ↦ and-false_left (g i) p
      ]))

-- What stays out of a set without v, and is not v, was out before.
out_before : (left left' v u : ℕ) → is_set 64 left' u ≡ (is_set 64 left u && not (eqb u v)) → is_set 64 left' u ≡ false → (u ≡ v → ⊥) → is_set 64 left u ≡ false
out_before left left' v u same out ne = elim (split (is_set 64 left u)) [
  | inr p ↦ p
  | inl p ↦ clash (same ∙ and_intro p (not_intro_true (ne_eqb u v ne))) out
]

-- ── entries that become i ──

module _ {A : Type 0} (all : ℕ) (i : A) (t₀ : List A) where
  pub record Put (left : ℕ) (t : List A) : Type 0 where
    pub small : left ≤ all
    pub inside : (k : ℕ) → k < 64 → is_set 64 left k ≡ true → is_set 64 all k ≡ true
    pub long : length t ≡ length t₀
    pub written : (v : ℕ) (d : A) → v < length t₀ → v < 64 → is_set 64 all v ≡ true → is_set 64 left v ≡ false → get_or t v d ≡ i
    pub kept : (v : ℕ) (d : A) → v < length t₀ → (ltb v 64 && is_set 64 all v) ≡ false → get_or t v d ≡ get_or t₀ v d

  pub put_starts : Put all t₀
  put_starts =
      record { small = omega arith; inside = λ k h p. p; long = refl; written = λ v d l h p q. clash p q; kept = λ v d l p. refl }

  pub put_goes_on : (left u : ℕ) (t : List A) → Put left t → u ≡ lowest_of left → u < 64
      → (left' : ℕ) → ((k : ℕ) → k < 64 → is_set 64 left' k ≡ (is_set 64 left k && not (eqb k u))) → left' < left
      → {t' : List A} → t' ≡ set t u i → Put left' t'
  put_goes_on left u t P e h left' same less {t'} et =
      record {
        small = omega (arith, P.small);
        inside = λ k l p. P.inside k l (and_left (is_set 64 left k) (not (eqb k u)) (sym (same k l) ∙ p));
        long = ap length et ∙ length-set t u i ∙ P.long;
        written = λ v d l hv p q. ap (λ (x : List A). get_or x v d) et ∙ elim (eq-or-ne v u) [
          | inl at ↦ ap (λ (k : ℕ). get_or (set t u i) k d) at ∙ get_or-set_same t u i d (omega (arith, P.long))
          | inr ne ↦ get_or-set_other t u v i d ne ∙ P.written v d l hv p (out_before left left' u v (same v hv) q ne)
        ];
        kept = λ v d l p. ap (λ (x : List A). get_or x v d) et ∙ elim (eq-or-ne v u) [
          | inl at ↦ clash (subst (λ (k : ℕ). (ltb k 64 && is_set 64 all k) ≡ true) (sym at) (and_intro (lt-ltb u 64 h) (P.inside u h (lowest_holds left u e h)))) p
          | inr ne ↦ get_or-set_other t u v i d ne ∙ P.kept v d l p
        ];
      }

  pub put_ends_with : (d : A) (left : ℕ) (t : List A) → Put left t → left ≤ 0 → (v : ℕ) → v < length t₀
      → get_or t v d ≡ cond (ltb v 64 && is_set 64 all v) i (get_or t₀ v d)
  put_ends_with d left t P none v l =
      let e : left ≡ 0 = omega arith in
      elim (split (ltb v 64 && is_set 64 all v)) [
        | inl p ↦
            P.written v d l (ltb-true v 64 (and_left (ltb v 64) (is_set 64 all v) p)) (and_right (ltb v 64) (is_set 64 all v) p)
            (ap (λ (m : ℕ). is_set 64 m v) e ∙ is_set-zero 64 v)
            ∙ sym (ap (λ (k : Bool). cond k i (get_or t₀ v d)) p)
        | inr p ↦ P.kept v d l p ∙ sym (ap (λ (k : Bool). cond k i (get_or t₀ v d)) p)
      ]

pub put_ends : (all i : ℕ) (t₀ : List ℕ) (left : ℕ) (t : List ℕ) → Put all i t₀ left t → left ≤ 0
    → (v : ℕ) → v < length t₀ → get_or t v 0 ≡ cond (ltb v 64 && is_set 64 all v) i (get_or t₀ v 0)
put_ends all i t₀ = put_ends_with all i t₀ 0

-- ── the join of some entries ──

module _ (all : ℕ) (from : List ℕ) where
  abbrev meets : ℕ → ℕ → Bool
  meets v u = is_set 64 all u && is_set 64 (get_or from u 0) v

  pub record Joined (left reach : ℕ) : Type 0 where
    pub small : left ≤ all
    pub inside : (k : ℕ) → k < 64 → is_set 64 left k ≡ true → is_set 64 all k ≡ true
    pub has : (v u : ℕ) → u < 64 → is_set 64 all u ≡ true → is_set 64 left u ≡ false → is_set 64 (get_or from u 0) v ≡ true → is_set 64 reach v ≡ true
    pub only : (v : ℕ) → is_set 64 reach v ≡ true → any 64 (λ u. is_set 64 all u && is_set 64 (get_or from u 0) v) ≡ true

  pub joined_starts : Joined all 0
  joined_starts =
      record { small = omega arith; inside = λ k h p. p; has = λ v u h p q r. clash p q; only = λ v p. clash p (is_set-zero 64 v) }

  pub joined_goes_on : (left u reach : ℕ) → Joined left reach → u ≡ lowest_of left → u < 64
      → (left' : ℕ) → ((k : ℕ) → k < 64 → is_set 64 left' k ≡ (is_set 64 left k && not (eqb k u))) → left' < left
      → {m : ℕ} → m ≡ get_or from u 0 → Joined left' (bit_or reach m)
  joined_goes_on left u reach J e h left' same less {m} em =
      record {
        small = omega (arith, J.small);
        inside = λ k l p. J.inside k l (and_left (is_set 64 left k) (not (eqb k u)) (sym (same k l) ∙ p));
        has = λ v w l p q r. or-is_set reach m v ∙ elim (eq-or-ne w u) [
          | inl at ↦ or_right (is_set 64 reach v) (ap (λ (x : ℕ). is_set 64 x v) (em ∙ ap (λ (k : ℕ). get_or from k 0) (sym at)) ∙ r)
          | inr ne ↦ or_left (is_set 64 m v) (J.has v w l p (out_before left left' u w (same w l) q ne) r)
        ];
        only = λ v p. elim (split (is_set 64 reach v)) [
          | inl q ↦ J.only v q
          | inr q ↦
              any_intro 64 (meets v) u h
              (and_intro (J.inside u h (lowest_holds left u e h))
              (ap (λ (x : ℕ). is_set 64 x v) (sym em) ∙ sym (ap (λ (k : Bool). k || is_set 64 m v) q) ∙ sym (or-is_set reach m v) ∙ p))
        ];
      }

  pub joined_ends : (left reach : ℕ) → Joined left reach → left ≤ 0 → (v : ℕ) → is_set 64 reach v ≡ any 64 (λ u. is_set 64 all u && is_set 64 (get_or from u 0) v)
  joined_ends left reach J none v =
      let e : left ≡ 0 = omega arith in
      bool_ext (is_set 64 reach v) (any 64 (meets v)) (λ p. J.only v p)
      (λ p.
      let (u, h, q) = any_elim 64 (meets v) p in
      J.has v u h (and_left (is_set 64 all u) (is_set 64 (get_or from u 0) v) q) (ap (λ (m : ℕ). is_set 64 m u) e ∙ is_set-zero 64 u)
      (and_right (is_set 64 all u) (is_set 64 (get_or from u 0) v) q))

  -- Where none of the set `full` is left to be reached, the entries that are left add nothing to it.
  pub joined_full : (left reach full rest : ℕ) → Joined left reach → ((u : ℕ) → is_set 64 rest u ≡ (is_set 64 full u && not (is_set 64 reach u))) → rest ≡ 0
      → (v : ℕ) → is_set 64 full v ≡ true → is_set 64 reach v ≡ any 64 (λ u. is_set 64 all u && is_set 64 (get_or from u 0) v)
  joined_full left reach full rest J same none v h = elim (split (is_set 64 reach v)) [
    | inl p ↦ p ∙ sym (J.only v p)
    | inr p ↦ clash (same v ∙ and_intro h (not_intro_true p)) (ap (λ (m : ℕ). is_set 64 m v) none ∙ is_set-zero 64 v)
  ]

-- ── a loop through a set ──

pub record Visited (all : ℕ) (Q : ℕ → Type 0) (left : ℕ) : Type 0 where
  pub small : left ≤ all
  pub passed : (k : ℕ) → k < 64 → is_set 64 all k ≡ true → is_set 64 left k ≡ false → Q k

pub visited_starts : (all : ℕ) (Q : ℕ → Type 0) → Visited all Q all
visited_starts all Q = record { small = omega arith; passed = λ k h p q. clash p q }

pub visited_goes_on : (all : ℕ) (Q Q' : ℕ → Type 0) (left v left' : ℕ) → Visited all Q left
    → ((u : ℕ) → u < 64 → is_set 64 left' u ≡ (is_set 64 left u && not (eqb u v))) → left' < left → ((k : ℕ) → Q k → Q' k) → Q' v → Visited all Q' left'
visited_goes_on all Q Q' left v left' S same less keeps q-v =
    record {
      small = omega (arith, S.small);
      passed = λ k h p q. elim (eq-or-ne k v) [
        | inl at ↦ subst Q' (sym at) q-v
        | inr ne ↦ elim (split (is_set 64 left k)) [
          | inr out ↦ keeps k (S.passed k h p out)
          | inl in_left ↦ clash (same k h ∙ and_intro in_left (not_intro_true (ne_eqb k v ne))) q
        ]
      ];
    }

pub visited_ends : (all : ℕ) (Q : ℕ → Type 0) (left : ℕ) → Visited all Q left → left ≤ 0 → (k : ℕ) → k < 64 → is_set 64 all k ≡ true → Q k
visited_ends all Q left S none k h p =
    let e : left ≡ 0 = omega arith in S.passed k h p (ap (λ (m : ℕ). is_set 64 m k) e ∙ is_set-zero 64 k)

pub first_below : (all left v : ℕ) → v ≡ lowest_of left → 0 < left → left ≤ all → all < 2 ^ 64 → v < 64
first_below all left v e some most fits = lowest-below left v e some (omega arith)
