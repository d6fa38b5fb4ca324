-- The arrays follow PUSH.
--     all_below                all numbers but those from k on, as a set
--     opens-nowhere, opens_lowest, opens_past     the benches to which a job may go, and a job that goes nowhere
--     levels_end               after the loop the sets of the levels are those of the board
--     move_some, move_none     what the first move says, and what its absence says
--     push_none, push_found    no pair meets PUSH, and the first that does
--     none_goes, one_goes      so where the search finds no job, and where it finds one
use Prim.Native.Nat.{ℕ, zero, suc, min, ◌+◌, ◌-◌, ◌/◌, ◌%◌, ◌^◌, ◌≤◌, ◌<◌}
use mathlib.Core.Path.{◌≡◌, refl, sym, ap, ap₂, ◌∙◌}
use mathlib.Core.Bool.{Bool, true, false, not, ◌&&◌, ◌||◌}
use mathlib.Core.Logic.{inl, inr, ◌≢◌}
use mathlib.Core.List.{List}
use native.Mathlib.Omega.{arith}
use native.Mathlib.Nat.{zero-div}
use lib.ListN.{length, get_or, replicate, length-replicate, get_or-replicate, get_or-eq_default}
use lib.Dec.{eqb, leb, ltb}
use lib.Bits.{bit_and}
use borrow.Author.Tests.{eqb-true, eq-eqb, ne_eqb, lt-ltb, le-ltb, leb-true, ltb-true, ltb-false}
use Rattle.std.specs.Prelude.{Option, Some, None}
use Rattle.std.specs.Bool.{then_some}
use Rattle.std.proofs.Common.{w64}
use Rattle.std.proofs.lemmas.Nat.Bits.{bit_at_not}
use Rattle.std.proofs.lemmas.Nat.{and_le_r}
use Rattle.std.proofs.lemmas.Option.{none-some, same_Some}
use Rattle.bools.proofs.BoolLaws.{split, tests, and-false_left, and-false_right, or_left, or_right, bool_ext, not_intro_true, and_right}
use Rattle.bools.proofs.OrderLaws.{eq-or-ne, lt-or-le, lt_of_ne}
use Rattle.sums.specs.Search.{any, all, least}
use Rattle.sums.proofs.SearchLaws.{any_cong, any_false, any_intro, any-least, least-found, least-none, least-le, least-holds, least-before}
use Rattle.bits.specs.Bits.{is_set}
use Rattle.bits.proofs.SetBits.{is_set-digit, is_set-zero, any-is_set}
use Rattle.rocks.specs.declared.rocks.Limits.{Limits}
use Rattle.algorithm.specs.Board.{Board, touches, other, towards, load}
use Rattle.algorithm.specs.Explore.{Explored, round_of, in_conflict, activated, father, child}
use Rattle.algorithm.specs.Push.{leaf, light_fathers, can_push, push_job, push_bench}
use Rattle.arrays.specs.Arrays.{plus_of}
use Rattle.rocks.specs.RockArrays.{first, touches_at, other_at, within_at, father_at, child_at}
use Rattle.rocks.specs.BoardArrays.{rocks_of, rock_at, Rocks, Owned, Rounds}
use Rattle.rocks.specs.Shown.{Shown}
use Rattle.push.specs.PushArrays.{heavy_at, receives_at, receiving, Receivers, Choices, opens, goes, first_move}
use Rattle.push.specs.declared.push.Move.{Move}
use Rattle.algorithm.proofs.BoardLaws.{other-below}
use Rattle.rocks.proofs.ScanLaws.{and_assoc, rock_below, board-any}
use Rattle.arrays.proofs.NumberLaws.{plus_one}
use Rattle.rocks.proofs.FirstLaws.{first-some, first-none}
use Rattle.rocks.proofs.BoardLaws.{other_at_lem, within_same}
use Rattle.sets.specs.Sets.{lowest_of}
use Rattle.sets.proofs.SetLaws.{and-is_set}
use Rattle.push.proofs.ReceiverLaws.{Ends, Levels}

-- ── Booleans ──

not-both : (a b c : Bool) → c ≡ not b → (not a || c) ≡ not (a && b)
not-both true b c e = e
not-both false b c e = refl

not-either : (a b : Bool) → (not a && not b) ≡ not (a || b)
not-either true b = refl
not-either false b = refl

all-not : (n : ℕ) (f g : ℕ → Bool) → ((i : ℕ) → f i ≡ not (g i)) → all n f ≡ not (any n g)
all-not zero f g e = refl
all-not (suc n) f g e = ap₂ ◌&&◌ (all-not n f g e) (e n) ∙ not-either (any n g) (g n)

leb-not-ltb : (a m : ℕ) → leb a m ≡ not (ltb m a)
leb-not-ltb a m = bool_ext (leb a m) (not (ltb m a)) (λ p. not_intro_true (le-ltb m a (leb-true a m p))) (λ p. omega tests)

-- The level is tested first in the sets, and after the activation in the definition.
regroup : (al at eq ac ll lf : Bool) → (ac ≡ true → at ≡ eq) → (al && (at && ((ac && ll) && lf))) ≡ ((((al && ac) && eq) && ll) && lf)
regroup false at eq ac ll lf h = refl
regroup true at eq true ll lf h = ap (λ (k : Bool). k && (ll && lf)) (h refl) ∙ sym (and_assoc eq ll lf)
regroup true at eq false ll lf h = and-false_right at refl

-- ── every bench ──

-- All benches, as a set.
abbrev pub AllBenches : ℕ → ℕ → Type 0
AllBenches benches all = (v : ℕ) → v < 64 → is_set 64 all v ≡ ltb v benches

full_has : (u : ℕ) → u < 64 → is_set 64 18446744073709551615 u ≡ true
full_has u h =
    let digit : (18446744073709551615 - 0) / 2 ^ (64 - 1 - u) % 2 ≡ 1 - 0 / 2 ^ (64 - 1 - u) % 2 =
    bit_at_not w64 0 (64 - 1 - u) (omega arith) (omega arith) in
    let none : 0 / 2 ^ (64 - 1 - u) ≡ 0 = zero-div (2 ^ (64 - 1 - u)) in
    is_set-digit 64 18446744073709551615 u h ∙ eq-eqb (18446744073709551615 / 2 ^ (64 - 1 - u) % 2) 1 (omega arith)

not_past : (k u : ℕ) → not (ltb k u || eqb u k) ≡ ltb u k
not_past k u = elim (lt-or-le u k) [
  | inl l ↦ rw (le-ltb k u (omega arith), ne_eqb u k (λ e. omega arith), lt-ltb u k l)
  | inr l ↦ elim (eq-or-ne u k) [
    | inl e ↦ ap not (or_right (ltb k u) (eq-eqb u k e)) ∙ sym (le-ltb u k l)
    | inr ne ↦ ap not (or_left (eqb u k) (lt-ltb k u (lt_of_ne k u l (λ e. ne (sym e))))) ∙ sym (le-ltb u k l)
  ]
]

-- All numbers, the numbers above k, those with k, and the first without the last.
pub all_below : (k above past all : ℕ)
    → ((u : ℕ) → u < 64 → is_set 64 above u ≡ (is_set 64 18446744073709551615 u && ltb k u))
    → ((u : ℕ) → u < 64 → is_set 64 past u ≡ (is_set 64 above u || eqb u k))
    → ((u : ℕ) → is_set 64 all u ≡ (is_set 64 18446744073709551615 u && not (is_set 64 past u))) → AllBenches k all
all_below k above past all A P L u h =
    let full = full_has u h in
    let from-k : is_set 64 past u ≡ (ltb k u || eqb u k) =
    P u h ∙ ap (λ (t : Bool). t || eqb u k) (A u h ∙ ap (λ (t : Bool). t && ltb k u) full) in
    L u ∙ ap₂ (λ (t s : Bool). t && not s) full from-k ∙ not_past k u

-- ── a job that goes nowhere ──

and_true : (t : Bool) → (t && true) ≡ t
and_true true = refl
and_true false = refl

module _ (k s o all : ℕ) (few : k ≤ 64) (A : AllBenches k all) (same : o ≡ s) where
  open_at : (u : ℕ) → u < k → is_set 64 (bit_and o all) u ≡ is_set 64 s u
  open_at u h =
      let here : is_set 64 all u ≡ true = A u (omega arith) ∙ lt-ltb u k h in
      and-is_set o all u ∙ ap (λ (t : Bool). is_set 64 o u && t) here ∙ and_true (is_set 64 o u)
      ∙ ap (λ (x : ℕ). is_set 64 x u) same

  pub opens-nowhere : bit_and o all ≡ 0 → any k (is_set 64 s) ≡ false
  opens-nowhere none =
      any_false k (is_set 64 s)
      (λ u h. sym (open_at u h) ∙ ap (λ (x : ℕ). is_set 64 x u) none ∙ is_set-zero 64 u)

  -- The lowest bench of a set that is not empty.
  pub opens_lowest : (v : ℕ) → bit_and o all < 2 ^ 64 → bit_and o all ≢ 0 → v ≡ lowest_of (bit_and o all)
      → (v < k) × ((u : ℕ) → u < v → is_set 64 s u ≡ false) × (is_set 64 s v ≡ true)
  unfolding lowest_of
  opens_lowest v fits some e =
      let p = bit_and o all in
      let found : any 64 (is_set 64 p) ≡ true = any-is_set 64 p fits ∙ ap not (ne_eqb p 0 some) in
      let below : v < 64 = omega (arith, e, any-least 64 (is_set 64 p) found) in
      let here : is_set 64 p v ≡ true = ap (is_set 64 p) e ∙ least-holds 64 (is_set 64 p) (omega (arith, e, below)) in
      let both : (is_set 64 o v && is_set 64 all v) ≡ true = sym (and-is_set o all v) ∙ here in
      let inside : v < k = ltb-true v k (sym (A v below) ∙ and_right (is_set 64 o v) (is_set 64 all v) both) in (
        inside,
        λ u h. sym (open_at u (omega (arith, inside))) ∙ least-before 64 (is_set 64 p) u (omega (arith, e)),
        sym (open_at v inside) ∙ here,
      )

-- Past the end of the choices.
pub opens_past : (choice place level receivers : List ℕ) (k j : ℕ) → length choice ≤ j
    → any k (is_set 64 (opens choice place level receivers j)) ≡ false
opens_past choice place level receivers k j past =
    any_false k (is_set 64 (opens choice place level receivers j)) (λ u h.
    let next = plus_of (get_or level (get_or place j 0) 0) 1 in
    and-is_set (get_or choice j 0) (get_or receivers next 0) u
    ∙ ap (λ (x : ℕ). is_set 64 x u && is_set 64 (get_or receivers next 0) u) (get_or-eq_default choice 0 past)
    ∙ ap (λ (t : Bool). t && is_set 64 (get_or receivers next 0) u) (is_set-zero 64 u))

-- ── the first move ──

module _ (b : Board) (x : Explored) where
  abbrev the_move : Move
  the_move = record { job = push_job b x; bench = push_bench b x }

  abbrev there_is_one : Bool
  there_is_one = ltb (push_job b x) b.jobs

  pub move_some : {m : Move} → Some m ≡ first_move b x
      → (push_job b x < b.jobs) × (m.job ≡ push_job b x) × (m.bench ≡ push_bench b x)
  move_some {m} e = elim (split there_is_one) [
    | inl p ↦
        let same : m ≡ the_move = same_Some m the_move (e ∙ ap (λ (t : Bool). then_some t the_move) p) in
        (ltb-true (push_job b x) b.jobs p, ap (λ (k : Move). k.job) same, ap (λ (k : Move). k.bench) same)
    | inr p ↦ absurd (none-some m (sym (e ∙ ap (λ (t : Bool). then_some t the_move) p)))
  ]

  pub move_none : None ≡ first_move b x → push_job b x ≡ b.jobs
  move_none e = elim (split there_is_one) [
    | inl p ↦ absurd (none-some the_move (e ∙ ap (λ (t : Bool). then_some t the_move) p))
    | inr p ↦ omega (arith, ltb-false (push_job b x) b.jobs p, least-le b.jobs (λ j. any b.benches (can_push b x j)))
  ]

-- ── of a board ──

-- A bench that receives is activated, so its level is at most the number of benches.
too_high : (b : Board) (x : Explored) (l v : ℕ) → suc b.benches ≤ l → (eqb l (round_of b x.level v) && receiving b x v) ≡ false
too_high b x l v high = elim (split (activated b x v)) [
  | inl ac ↦
      and-false_left (receiving b x v)
      (ne_eqb l (round_of b x.level v) (λ e. omega (arith, high, e, ltb-true (round_of b x.level v) (suc b.benches) ac)))
  | inr p ↦
      and-false_right (eqb l (round_of b x.level v))
      (and-false_left (leaf b x v || light_fathers b x v) (and-false_left (leb (load b x.dir v) b.limit) p))
]

module _ (b : Board) (n : Limits) (low high weight : List ℕ) (R : Rocks b n low high weight) where
  -- ── the benches that may receive ──

  module _ (x : Explored) (own dir loads joins levels : List ℕ) (O : Owned b own) (S : Shown b x dir loads joins levels) where
    abbrev child_there : ℕ → ℕ → Bool
    child_there j v = towards x.dir j v && in_conflict b x (other b j v)

    abbrev father_there : ℕ → ℕ → Bool
    father_there j v = towards x.dir j (other b j v) && in_conflict b x (other b j v)

    abbrev heavy_there : ℕ → ℕ → Bool
    heavy_there j v = father_there j v && ltb b.limit (b.own v + b.weight j)

    joined_far : (r v : ℕ) → r < rocks_of b → touches b (rock_at b r) v ≡ true
        → within_at n.benches joins (other_at low high r v) ≡ in_conflict b x (other b (rock_at b r) v)
    joined_far r v h t =
        ap (λ (k : ℕ). within_at n.benches joins k) (other_at_lem b n low high weight R r v h)
        ∙ within_same b n low high weight R x.joined joins S.joined (other b (rock_at b r) v) (other-below b R.sound (rock_at b r) v (rock_below b n low high weight R r h) t)

    child-same : (r v : ℕ) → r < rocks_of b → v < b.benches → touches b (rock_at b r) v ≡ true
        → child_at n.benches low high dir joins r v ≡ child_there (rock_at b r) v
    child-same r v h l t =
        ap₂ ◌&&◌ (ap₂ eqb (S.seen.directed.entries r h) (plus_one v (omega (arith, R.few_benches)))) (joined_far r v h t)

    father-same : (r v : ℕ) → r < rocks_of b → touches b (rock_at b r) v ≡ true
        → father_at n.benches low high dir joins r v ≡ father_there (rock_at b r) v
    father-same r v h t =
        let u = other b (rock_at b r) v in
        let far : u < b.benches = other-below b R.sound (rock_at b r) v (rock_below b n low high weight R r h) t in
        ap₂ ◌&&◌
        (ap₂ eqb (S.seen.directed.entries r h) (ap (λ (k : ℕ). plus_of k 1) (other_at_lem b n low high weight R r v h) ∙ plus_one u (omega (arith, R.few_benches))))
        (joined_far r v h t)

    heavy_same : (r v : ℕ) → r < rocks_of b → v < b.benches → touches b (rock_at b r) v ≡ true
        → heavy_at n.benches n.limit low high weight own dir joins r v ≡ heavy_there (rock_at b r) v
    heavy_same r v h l t =
        ap₂ ◌&&◌ (father-same r v h t) (ap₂ ltb R.limit (ap₂ ◌+◌ (O.entries v l) (R.weights r h)))

    leaf-same : (v : ℕ) → v < b.benches
        → not (any n.rocks (λ r. touches_at low high r v && child_at n.benches low high dir joins r v)) ≡ leaf b x v
    leaf-same v l =
        ap not
        (board-any b n low high weight R (child_at n.benches low high dir joins) child_there child-same v l
        ∙ any_cong b.jobs (λ j. touches b j v && child_there j v) (child b x.dir (in_conflict b x) v)
        (λ j h. sym (and_assoc (touches b j v) (towards x.dir j v) (in_conflict b x (other b j v)))))

    light_same : (v : ℕ) → v < b.benches
        → not (any n.rocks (λ r. touches_at low high r v && heavy_at n.benches n.limit low high weight own dir joins r v)) ≡ light_fathers b x v
    light_same v l =
        ap not
        (board-any b n low high weight R (heavy_at n.benches n.limit low high weight own dir joins) heavy_there heavy_same v l
        ∙ any_cong b.jobs (λ j. touches b j v && heavy_there j v)
        (λ j. father b x.dir (in_conflict b x) v j && ltb b.limit (b.own v + b.weight j))
        (λ j h. sym (and_assoc (touches b j v) (father_there j v) (ltb b.limit (b.own v + b.weight j)))
        ∙ ap (λ (k : Bool). k && ltb b.limit (b.own v + b.weight j))
        (sym (and_assoc (touches b j v) (towards x.dir j (other b j v)) (in_conflict b x (other b j v))))))
        ∙ sym
        (all-not b.jobs (λ j. not (father b x.dir (in_conflict b x) v j) || leb (b.own v + b.weight j) b.limit)
        (λ j. father b x.dir (in_conflict b x) v j && ltb b.limit (b.own v + b.weight j))
        (λ j. not-both (father b x.dir (in_conflict b x) v j) (ltb b.limit (b.own v + b.weight j)) (leb (b.own v + b.weight j) b.limit) (leb-not-ltb (b.own v + b.weight j) b.limit)))

    -- The marks that the pass over the rocks leaves.
    module _ (children heavy : ℕ) (C : Ends low high (child_at n.benches low high dir joins) n.rocks children)
        (H : Ends low high (heavy_at n.benches n.limit low high weight own dir joins) n.rocks heavy) where
      receives_same : (v : ℕ) → v < b.benches → receives_at n.benches n.limit loads levels children heavy v ≡ receiving b x v
      receives_same v l =
          let small : v < 64 = omega (arith, R.few_benches) in
          ap₂ ◌&&◌ (within_same b n low high weight R x.level levels S.level v l)
          (ap₂ ◌&&◌ (ap₂ leb (S.seen.loaded.entries v l) R.limit)
          (ap₂ ◌||◌ (ap not (C v small) ∙ leaf-same v l) (ap not (H v small) ∙ light_same v l)))
          ∙ sym (and_assoc (activated b x v) (leb (load b x.dir v) b.limit) (leaf b x v || light_fathers b x v))

      pub levels_end : (v : ℕ) (t₀ receivers : List ℕ) → n.benches ≤ v → t₀ ≡ replicate 66 0 → length receivers ≡ length t₀
          → Levels levels (receives_at n.benches n.limit loads levels children heavy) t₀ v receivers → Receivers b x receivers
      levels_end v t₀ receivers past none same inv =
          let long : length t₀ ≡ 66 = ap length none ∙ length-replicate {A = ℕ} 66 0 in
          record {
            entries = λ l u m. elim (lt-or-le l 66) [
              | inl h ↦
                  inv l u (omega arith) (omega (arith, R.few_benches))
                  ∙ ap₂ ◌||◌
                  (ap (λ (k : List ℕ). is_set 64 (get_or k l 0) u) none ∙ ap (λ (k : ℕ). is_set 64 k u) (get_or-replicate 66 l 0 0 h) ∙ is_set-zero 64 u)
                  (ap₂ ◌&&◌ (lt-ltb u v (omega (arith, R.benches))) (ap₂ (λ (k : ℕ) (t : Bool). eqb l k && t) (S.level.entries u m) (receives_same u m)))
              -- No bench has so high a level.
              | inr h ↦
                  ap (λ (k : ℕ). is_set 64 k u) (get_or-eq_default receivers 0 {n = l} (omega (arith, same, long))) ∙ is_set-zero 64 u
                  ∙ sym (too_high b x l u (omega (arith, R.few_benches)))
            ];
          }

  -- ── the first pair ──

  module _ (x : Explored) where
    abbrev round : ℕ → ℕ
    round v = round_of b x.level v

    module _ (choice place level receivers : List ℕ) (C : Choices b choice place) (L : Rounds b x.level level) (W : Receivers b x receivers) where
      place_below : (j : ℕ) → j < b.jobs → b.pebble j ≡ true → b.place j < b.benches
      place_below j h p = R.sound.allowed_below j (b.place j) h (R.sound.pebble_allowed j h p)

      -- One above the level of the bench from which the pebble comes.
      next_level : (j v : ℕ) → j < b.jobs → b.pebble j ≡ true → activated b x v ≡ true
          → eqb (plus_of (get_or level (get_or place j 0) 0) 1) (round v) ≡ eqb (round v) (suc (round (b.place j)))
      next_level j v h p ac =
          let u : ℕ = b.place j in
          let from : get_or level (get_or place j 0) 0 ≡ round u = ap (λ (k : ℕ). get_or level k 0) (C.lie j h p) ∙ L.entries u (place_below j h p) in
          let low-level : round v < suc b.benches = ltb-true (round v) (suc b.benches) ac in
          ap (λ (k : ℕ). eqb (plus_of k 1) (round v)) from
          ∙ bool_ext (eqb (plus_of (round u) 1) (round v)) (eqb (round v) (suc (round u)))
          (λ e. eq-eqb (round v) (suc (round u)) (omega (arith, eqb-true (plus_of (round u) 1) (round v) e, low-level, R.few_benches)))
          (λ e. eq-eqb (plus_of (round u) 1) (round v) (omega (arith, eqb-true (round v) (suc (round u)) e, low-level, R.few_benches)))

      push_same : (j v : ℕ) → j < b.jobs → v < b.benches → is_set 64 (opens choice place level receivers j) v ≡ can_push b x j v
      push_same j v h l =
          let next = plus_of (get_or level (get_or place j 0) 0) 1 in
          and-is_set (get_or choice j 0) (get_or receivers next 0) v
          ∙ ap₂ ◌&&◌ (C.allow j v h l) (W.entries next v l)
          ∙ elim (split (b.pebble j)) [
            | inl p ↦
                rw p (regroup (b.allows j v) (eqb next (round v)) (eqb (round v) (suc (round (b.place j)))) (activated b x v) (leb (load b x.dir v) b.limit)
                (leaf b x v || light_fathers b x v) (next_level j v h p))
            | inr p ↦ rw p
          ]

      any_same : (j : ℕ) → j < b.jobs → any n.benches (is_set 64 (opens choice place level receivers j)) ≡ any b.benches (can_push b x j)
      any_same j h =
          ap (λ (k : ℕ). any k (is_set 64 (opens choice place level receivers j))) R.benches
          ∙ any_cong b.benches (is_set 64 (opens choice place level receivers j)) (can_push b x j) (λ v l. push_same j v h l)

      pub push_none : (j : ℕ) → n.jobs ≤ j
          → ((i : ℕ) → i < j → any n.benches (is_set 64 (opens choice place level receivers i)) ≡ false) → None ≡ first_move b x
      push_none j past before =
          let none : push_job b x ≡ b.jobs =
          least-none b.jobs (λ i. any b.benches (can_push b x i)) (λ i l. sym (any_same i l) ∙ before i (omega (arith, R.jobs))) in
          sym (ap (λ (t : Bool). then_some t (the_move b x)) (le-ltb (push_job b x) b.jobs (omega arith)))

      pub push_found : (j v : ℕ) → j < n.jobs → v < n.benches
          → ((i : ℕ) → i < j → any n.benches (is_set 64 (opens choice place level receivers i)) ≡ false)
          → ((u : ℕ) → u < v → is_set 64 (opens choice place level receivers j) u ≡ false)
          → is_set 64 (opens choice place level receivers j) v ≡ true
          → Some (record { job = j; bench = v }) ≡ first_move b x
      push_found j v hj hv before lower here =
          let h : j < b.jobs = omega (arith, R.jobs) in
          let l : v < b.benches = omega (arith, R.benches) in
          let same : (u : ℕ) → u < b.benches → is_set 64 (opens choice place level receivers j) u ≡ can_push b x j u =
          λ u k. push_same j u h k in
          let push-here : can_push b x j v ≡ true = sym (same v l) ∙ here in
          let job : j ≡ push_job b x =
          sym (least-found b.jobs (λ i. any b.benches (can_push b x i)) j h (any_intro b.benches (can_push b x j) v l push-here)
          (λ i k. sym (any_same i (omega arith)) ∙ before i k)) in
          let bench : v ≡ push_bench b x =
          sym (least-found b.benches (can_push b x j) v l push-here
          (λ u s. sym (same u (omega arith)) ∙ lower u s))
          ∙ ap (λ (i : ℕ). least b.benches (can_push b x i)) job in
          let moves : ℕ → ℕ → Option Move = λ i u. Some (record { job = i; bench = u }) in
          ap₂ moves job bench
          ∙ sym (ap (λ (t : Bool). then_some t (the_move b x)) (lt-ltb (push_job b x) b.jobs (omega (arith, job))))

      module _ (all : ℕ) (A : AllBenches n.benches all) where
        abbrev may_go : ℕ → Bool
        may_go = goes choice place level receivers all

        few : n.benches ≤ 64
        few = omega (arith, R.few_benches, R.benches)

        stays : (j : ℕ) → may_go j ≡ false → any n.benches (is_set 64 (opens choice place level receivers j)) ≡ false
        stays j e =
            let set = opens choice place level receivers j in
            opens-nowhere n.benches set set all few A refl (eqb-true (bit_and set all) 0 (omega (tests, e)))

        module _ (k : ℕ) (bound : k ≡ min n.jobs (length choice)) where
          pub none_goes : None ≡ first k may_go → None ≡ first_move b x
          none_goes e =
              let past : k ≤ least k may_go = first-none k may_go e refl in
              push_none n.jobs (omega arith) (λ i l. elim (lt-or-le i (length choice)) [
                | inl m ↦ stays i (least-before k may_go i (omega (arith, past, l, m, bound)))
                | inr m ↦ opens_past choice place level receivers n.benches i m
              ])

          pub one_goes : (j v : ℕ) → all < 2 ^ 64 → Some j ≡ first k may_go
              → v ≡ lowest_of (bit_and (opens choice place level receivers j) all)
              → Some (record { job = j; bench = v }) ≡ first_move b x
          one_goes j v fits e low =
              let set = opens choice place level receivers j in
              let at = first-some k may_go {v = j} e refl in
              let here : may_go j ≡ true = ap may_go at.0 ∙ least-holds k may_go (omega (arith, at.0, at.1)) in
              let lowest = opens_lowest n.benches set set all few A refl v (omega (arith, and_le_r set all, fits))
              (λ z. omega (tests, here, z)) low in
              push_found j v (omega (arith, at.1, bound)) lowest.0
              (λ i l. stays i (least-before k may_go i (omega (arith, at.0, l)))) lowest.1 lowest.2
