-- The sets of benches that the rounds of an exploration keep.
--     Raised            what the opening of a round does to the arrays
--     Sets              what the sets hold between two rounds
--     sets_start        where nothing is explored yet
--     joins_covered, fakes_covered, waits-next     the candidates with which a round goes on
--     sets_next         after a round
use Prim.Native.Nat.{ℕ, ◌+◌, ◌≤◌, ◌<◌}
use mathlib.Core.Path.{◌≡◌, refl, sym, ap, subst, ◌∙◌}
use mathlib.Core.Bool.{Bool, true, false, cond, not, ◌&&◌, ◌||◌}
use mathlib.Core.Logic.{inl, inr}
use mathlib.Core.List.{List}
use native.Mathlib.Omega.{arith}
use lib.ListN.{length, get_or, replicate, length-replicate, get_or-replicate}
use lib.Dec.{eqb, ltb}
use borrow.Author.Tests.{lt-ltb, le-ltb, eq-eqb, ne_eqb, eqb-true, ltb-true}
use Rattle.bools.proofs.BoolLaws.{split, clash, tests, and_intro, and_left, and_right, and-false_left, and-false_right, or_left, or_right, or_elim, not_intro_true, not-true, or_unit, cond-true, cond-false}
use Rattle.bools.proofs.OrderLaws.{eq-or-ne, lt-or-le}
use Rattle.sums.specs.Search.{any}
use Rattle.sums.proofs.SearchLaws.{any_intro}
use Rattle.bits.specs.Bits.{is_set}
use Rattle.bits.proofs.SetBits.{is_set-zero}
use Rattle.rocks.specs.declared.rocks.Limits.{Limits}
use Rattle.arrays.specs.Arrays.{plus_of}
use Rattle.rocks.specs.RockArrays.{touches_at, other_at, within_at, father_at}
use Rattle.conflict.specs.ConflictArrays.{joins_at, fake_at, Grew}
use Rattle.activation.specs.ActivationArrays.{Waits}
use Rattle.explore.specs.ExploreArrays.{opens_at}
use Rattle.rock_graph.specs.Neighbours.{Neighbours, Touches}
use Rattle.forced.specs.SetArrays.{Covers, Nowhere, forces_at}
use Rattle.rocks.proofs.RockLaws.{other_at_low, other_at_high, end_below}
use Rattle.activation.proofs.WaitLaws.{within_of, within_now, waits_left}

-- ── the other end ──

touch_low : (low high : List ℕ) (r : ℕ) → touches_at low high r (get_or low r 0) ≡ true
touch_low low high r = or_left (eqb (get_or low r 0) (get_or high r 0)) (eq-eqb (get_or low r 0) (get_or low r 0) refl)

touch_high : (low high : List ℕ) (r : ℕ) → touches_at low high r (get_or high r 0) ≡ true
touch_high low high r = or_right (eqb (get_or high r 0) (get_or low r 0)) (eq-eqb (get_or high r 0) (get_or high r 0) refl)

other_back : (low high : List ℕ) (r v : ℕ) → touches_at low high r v ≡ true
    → (touches_at low high r (other_at low high r v) ≡ true) × (other_at low high r (other_at low high r v) ≡ v)
other_back low high r v t = elim (eq-or-ne v (get_or low r 0)) [
  | inl e ↦
      let o : other_at low high r v ≡ get_or high r 0 = sym (other_at_low low high r v e) in (
        subst (λ (k : ℕ). touches_at low high r k ≡ true) (sym o) (touch_high low high r),
        ap (other_at low high r) o ∙ elim (eq-or-ne (get_or high r 0) (get_or low r 0)) [
          | inl q ↦ sym (other_at_low low high r (get_or high r 0) q) ∙ q ∙ sym e
          | inr q ↦ sym (other_at_high low high r (get_or high r 0) q) ∙ sym e
        ],
      )
  | inr ne ↦
      let o : other_at low high r v ≡ get_or low r 0 = sym (other_at_high low high r v ne) in
      let e : v ≡ get_or high r 0 = elim (or_elim (eqb v (get_or low r 0)) (eqb v (get_or high r 0)) t) [
        | inl p ↦ absurd (ne (eqb-true v (get_or low r 0) p))
        | inr p ↦ eqb-true v (get_or high r 0) p
      ] in (
        subst (λ (k : ℕ). touches_at low high r k ≡ true) (sym o) (touch_low low high r),
        ap (other_at low high r) o ∙ sym (other_at_low low high r (get_or low r 0) refl) ∙ sym e,
      )
]

-- ── rounds of the exploration ──

within_never : (m : ℕ) (xs : List ℕ) (v : ℕ) → m ≤ 64 → get_or xs v 0 ≡ plus_of m 1 → within_at m xs v ≡ false
within_never m xs v few e = elim (split (within_at m xs v)) [
  | inl p ↦ absurd (omega (tests, e))
  | inr p ↦ p
]

cond-first : (c a x b y : Bool) → b ≡ a → cond c (a && x) (b && y) ≡ true → a ≡ true
cond-first true a x b y e p = and_left a x p
cond-first false a x b y e p = sym e ∙ and_left b y p

-- ── how a round opens ──

pub record Raised (n : Limits) (i all active reach : ℕ) (load joined level : List ℕ) (opened : ℕ) (joined' level' : List ℕ) : Type 0 where
  pub opens : (v : ℕ) → v < 64 → is_set 64 opened v ≡ opens_at n i all active reach load v
  pub entered : (v : ℕ) → v < length joined → v < 64 → get_or joined' v 0 ≡ cond (is_set 64 opened v && not (within_at n.benches joined v)) i (get_or joined v 0)
  pub raised : (v : ℕ) → v < length level → get_or level' v 0 ≡ cond (ltb v 64 && is_set 64 opened v) i (get_or level v 0)
  pub long_joined : length joined' ≡ length joined
  pub long_level : length level' ≡ length level

-- ── between two rounds ──

module _ (n : Limits) (low high weight : List ℕ) where
  pub record Sets (i all : ℕ) (dir load joined level : List ℕ) (active fresh wait : ℕ) : Type 0 where
    pub room_joined : n.benches ≤ length joined
    pub room_level : n.benches ≤ length level
    pub alls : (v : ℕ) → v < 64 → is_set 64 all v ≡ ltb v n.benches
    pub actives : (v : ℕ) → v < n.benches → is_set 64 active v ≡ within_at n.benches level v
    pub active_below : (v : ℕ) → v < 64 → is_set 64 active v ≡ true → v < n.benches
    pub freshly : (v : ℕ) → v < 64 → is_set 64 fresh v ≡ (ltb v n.benches && eqb (plus_of (get_or level v 0) 1) i)
    pub earlier : (v : ℕ) → v < n.benches → within_at n.benches level v ≡ true → get_or level v 0 < i
    pub waits : Waits n joined level wait
    pub joins : Nowhere n low high (joins_at n.benches low high dir joined)
    pub fakes : Nowhere n low high (fake_at n.benches dir joined)
    pub forces : Nowhere n low high (forces_at n.bound weight dir load)

  module _ (few : n.benches ≤ 64) (ends : (r : ℕ) → r < n.rocks → (get_or low r 0 < n.benches) × (get_or high r 0 < n.benches)) where
    pub sets_start : (m all : ℕ) {dir load joined level : List ℕ} → n.benches ≤ m → joined ≡ replicate m (plus_of n.benches 1) → level ≡ replicate m (plus_of n.benches 1)
        → ((v : ℕ) → v < 64 → is_set 64 all v ≡ ltb v n.benches) → Nowhere n low high (forces_at n.bound weight dir load)
        → Sets 0 all dir load joined level 0 0 0
    sets_start m all {dir} {load} {joined} {level} wide ej el alls none =
        let j : (v : ℕ) → v < n.benches → within_at n.benches joined v ≡ false =
        λ v h. within_never n.benches joined v few (ap (λ (x : List ℕ). get_or x v 0) ej ∙ get_or-replicate m v (plus_of n.benches 1) 0 (omega arith)) in
        let l : (v : ℕ) → v < n.benches → within_at n.benches level v ≡ false =
        λ v h. within_never n.benches level v few (ap (λ (x : List ℕ). get_or x v 0) el ∙ get_or-replicate m v (plus_of n.benches 1) 0 (omega arith)) in
        record {
          room_joined = omega (arith, ap length ej, length-replicate m (plus_of n.benches 1));
          room_level = omega (arith, ap length el, length-replicate m (plus_of n.benches 1));
          alls = alls;
          actives = λ v h. is_set-zero 64 v ∙ sym (l v h);
          active_below = λ v h p. clash p (is_set-zero 64 v);
          freshly = λ v h. is_set-zero 64 v ∙ sym (and-false_right (ltb v n.benches) (ne_eqb (plus_of (get_or level v 0) 1) 0 (λ e. omega arith)));
          earlier = λ v h p. clash p (l v h);
          waits = λ v h p q. clash p (j v h);
          joins = λ r v h t.
              let o = end_below low high n.benches r (other_at low high r v) (ends r h) (other_back low high r v t).0 in
              and-false_right (not (within_at n.benches joined v)) (and-false_right (eqb (get_or dir r 0) (plus_of (other_at low high r v) 1)) (j (other_at low high r v) o));
          fakes = λ r v h t. and-false_right (eqb (get_or dir r 0) 0) (j v (end_below low high n.benches r v (ends r h) t));
          forces = none;
        }

    module _ {i all active reach fresh wait opened : ℕ} {dir load joined level joined' level' : List ℕ} (in-time : i ≤ n.benches)
        (S : Sets i all dir load joined level active fresh wait) (O : Raised n i all active reach load joined level opened joined' level') where
      entered_at : (v : ℕ) → v < n.benches → get_or joined' v 0 ≡ cond (is_set 64 opened v && not (within_at n.benches joined v)) i (get_or joined v 0)
      entered_at v h = O.entered v (omega (arith, S.room_joined)) (omega arith)

      raised_at : (v : ℕ) → v < n.benches → get_or level' v 0 ≡ cond (is_set 64 opened v) i (get_or level v 0)
      raised_at v h =
          O.raised v (omega (arith, S.room_level)) ∙ ap (λ (c : Bool). cond (c && is_set 64 opened v) i (get_or level v 0)) (lt-ltb v 64 (omega arith))

      opened_below : (v : ℕ) → v < 64 → is_set 64 opened v ≡ true → v < n.benches
      opened_below v h p =
          ltb-true v n.benches
          (cond-first (eqb i 0) (ltb v n.benches) (ltb n.bound (get_or load v 0)) (is_set 64 all v) (is_set 64 reach v && not (is_set 64 active v)) (S.alls v h)
          (sym (O.opens v h) ∙ p))

      -- Who is not in the conflict set now was not before.
      not-before : (v : ℕ) → v < n.benches → within_at n.benches joined' v ≡ false → within_at n.benches joined v ≡ false
      not-before v h p = elim (split (within_at n.benches joined v)) [
        | inr q ↦ q
        | inl q ↦
            let out = and-false_right (is_set 64 opened v) (ap not q) in
            clash (within_of n.benches joined' joined v (entered_at v h ∙ cond-false i (get_or joined v 0) out) ∙ q) p
      ]

      -- Who is in it now and was not before has opened the round.
      came_in : (v : ℕ) → v < n.benches → within_at n.benches joined v ≡ false → within_at n.benches joined' v ≡ true → is_set 64 opened v ≡ true
      came_in v h p q = elim (split (is_set 64 opened v)) [
        | inl o ↦ o
        | inr o ↦
            let out = and-false_left (not (within_at n.benches joined v)) o in
            clash q (within_of n.benches joined' joined v (entered_at v h ∙ cond-false i (get_or joined v 0) out) ∙ p)
      ]

      pub joins_covered : (neighbours : List ℕ) (touched cand : ℕ) → n.rocks ≤ 64 → Neighbours n low high neighbours → Touches n low high touched
          → ((w : ℕ) → w < 64 → is_set 64 touched w ≡ true → is_set 64 cand w ≡ any 64 (λ u. is_set 64 opened u && is_set 64 (get_or neighbours u 0) w))
          → Covers n low high (joins_at n.benches low high dir joined') cand
      joins_covered neighbours touched cand narrow N T reached r v h t p =
          let u = other_at low high r v in
          let (tu, back) = other_back low high r v t in
          let hv : v < n.benches = end_below low high n.benches r v (ends r h) t in
          let hu : u < n.benches = end_below low high n.benches r u (ends r h) tu in
          let out = not-before v hv (not-true (within_at n.benches joined' v) (and_left (not (within_at n.benches joined' v)) (father_at n.benches low high dir joined' r v) p)) in
          let leads = and_right (not (within_at n.benches joined' v)) (father_at n.benches low high dir joined' r v) p in
          let aims = and_left (eqb (get_or dir r 0) (plus_of u 1)) (within_at n.benches joined' u) leads in
          let inside = and_right (eqb (get_or dir r 0) (plus_of u 1)) (within_at n.benches joined' u) leads in
          let before : within_at n.benches joined u ≡ false = elim (split (within_at n.benches joined u)) [
            | inr q ↦ q
            | inl q ↦ clash (and_intro (not_intro_true out) (and_intro aims q)) (S.joins r v h t)
          ] in
          let small : v < 64 = omega arith in
          let close : is_set 64 (get_or neighbours u 0) v ≡ true =
          subst (λ (k : ℕ). is_set 64 (get_or neighbours u 0) k ≡ true) back (N r u h (omega arith) (omega arith) tu (subst (λ (k : ℕ). k < 64) (sym back) small)) in
          reached v small (T r v h (omega arith) small t)
          ∙ any_intro 64 (λ k. is_set 64 opened k && is_set 64 (get_or neighbours k 0) v) u (omega arith) (and_intro (came_in u hu before inside) close)

      pub fakes_covered : (touched fakes : ℕ) → n.rocks ≤ 64 → Touches n low high touched
          → ((w : ℕ) → is_set 64 fakes w ≡ (is_set 64 opened w && is_set 64 touched w)) → Covers n low high (fake_at n.benches dir joined') fakes
      fakes_covered touched fakes narrow T both r v h t p =
          let hv : v < n.benches = end_below low high n.benches r v (ends r h) t in
          let idle = and_left (eqb (get_or dir r 0) 0) (within_at n.benches joined' v) p in
          let inside = and_right (eqb (get_or dir r 0) 0) (within_at n.benches joined' v) p in
          let before : within_at n.benches joined v ≡ false = elim (split (within_at n.benches joined v)) [
            | inr q ↦ q
            | inl q ↦ clash (and_intro idle q) (S.fakes r v h t)
          ] in
          both v ∙ and_intro (came_in v hv before inside) (T r v h (omega arith) (omega arith) t)

      module _ (grown waiting rest asked : ℕ) (joined'' : List ℕ) (G : Grew n joined' joined'' grown)
          (eg : (v : ℕ) → is_set 64 waiting v ≡ (is_set 64 wait v || is_set 64 grown v))
          (er : (v : ℕ) → is_set 64 rest v ≡ (is_set 64 waiting v && not (is_set 64 opened v)))
          (ea : (v : ℕ) → is_set 64 asked v ≡ (is_set 64 all v && is_set 64 rest v)) where
        pub waits_asked : Waits n joined'' level' asked
        waits_asked v h wj wl =
            let shut : is_set 64 opened v ≡ false = elim (split (is_set 64 opened v)) [
              | inr q ↦ q
              | inl q ↦ clash (within_now n.benches i level' v in-time (raised_at v h ∙ cond-true i (get_or level v 0) q)) wl
            ] in
            let low-level = sym (within_of n.benches level' level v (raised_at v h ∙ cond-false i (get_or level v 0) shut)) ∙ wl in
            let some : (is_set 64 wait v || is_set 64 grown v) ≡ true = elim (split (within_at n.benches joined' v)) [
              | inr q ↦ or_right (is_set 64 wait v) (G v h q wj)
              | inl q ↦
                  let same = within_of n.benches joined' joined v
                  (entered_at v h ∙ cond-false i (get_or joined v 0) (and-false_left (not (within_at n.benches joined v)) shut)) in
                  or_left (is_set 64 grown v) (S.waits v h (sym same ∙ q) low-level)
            ] in
            ea v ∙ and_intro (S.alls v (omega arith) ∙ lt-ltb v n.benches h) (er v ∙ and_intro (eg v ∙ some) (not_intro_true shut))

        module _ (left went fresh' active' : ℕ) (dir' load' level'' : List ℕ)
            (step : (v : ℕ) → v < length level' → v < 64 → get_or level'' v 0 ≡ cond (is_set 64 asked v && not (is_set 64 left v)) i (get_or level' v 0))
            (ew : (v : ℕ) → is_set 64 went v ≡ (is_set 64 asked v && not (is_set 64 left v)))
            (is-fresh : (v : ℕ) → is_set 64 fresh' v ≡ (is_set 64 opened v || is_set 64 went v))
            (is-active : (v : ℕ) → is_set 64 active' v ≡ (is_set 64 active v || is_set 64 fresh' v)) where
          after_went : (v : ℕ) → v < n.benches → get_or level'' v 0 ≡ cond (is_set 64 went v) i (get_or level' v 0)
          after_went v h =
              step v (omega (arith, S.room_level, O.long_level)) (omega arith) ∙ ap (λ (c : Bool). cond c i (get_or level' v 0)) (sym (ew v))

          after_round : (v : ℕ) → v < n.benches → get_or level'' v 0 ≡ cond (is_set 64 fresh' v) i (get_or level v 0)
          after_round v h = elim (split (is_set 64 went v)) [
            | inl p ↦
                after_went v h ∙ cond-true i (get_or level' v 0) p ∙ sym (cond-true i (get_or level v 0) (is-fresh v ∙ or_right (is_set 64 opened v) p))
            | inr p ↦
                after_went v h ∙ cond-false i (get_or level' v 0) p ∙ raised_at v h
                ∙ ap (λ (c : Bool). cond c i (get_or level v 0)) (sym (or_unit (is_set 64 opened v) p) ∙ sym (is-fresh v))
          ]

          fresh_below : (v : ℕ) → v < 64 → is_set 64 fresh' v ≡ true → v < n.benches
          fresh_below v h p = elim (or_elim (is_set 64 opened v) (is_set 64 went v) (sym (is-fresh v) ∙ p)) [
            | inl q ↦ opened_below v h q
            | inr q ↦
                let a = and_left (is_set 64 asked v) (not (is_set 64 left v)) (sym (ew v) ∙ q) in
                ltb-true v n.benches (sym (S.alls v h) ∙ and_left (is_set 64 all v) (is_set 64 rest v) (sym (ea v) ∙ a))
          ]

          pub sets_next : length joined'' ≡ length joined' → length level'' ≡ length level'
              → Nowhere n low high (joins_at n.benches low high dir' joined'') → Nowhere n low high (fake_at n.benches dir' joined'')
              → Nowhere n low high (forces_at n.bound weight dir' load') → Sets (i + 1) all dir' load' joined'' level'' active' fresh' left
          sets_next lj ll nj nf nd =
              record {
                room_joined = omega (arith, lj, O.long_joined, S.room_joined);
                room_level = omega (arith, ll, O.long_level, S.room_level);
                alls = S.alls;
                actives = λ v h. is-active v ∙ elim (split (is_set 64 fresh' v)) [
                  | inl p ↦
                      or_right (is_set 64 active v) p
                      ∙ sym (within_now n.benches i level'' v in-time (after_round v h ∙ cond-true i (get_or level v 0) p))
                  | inr p ↦
                      or_unit (is_set 64 active v) p ∙ S.actives v h
                      ∙ sym (within_of n.benches level'' level v (after_round v h ∙ cond-false i (get_or level v 0) p))
                ];
                active_below = λ v h p.
                    elim (or_elim (is_set 64 active v) (is_set 64 fresh' v) (sym (is-active v) ∙ p)) [
                      | inl q ↦ S.active_below v h q
                      | inr q ↦ fresh_below v h q
                    ];
                freshly = λ v h. elim (split (is_set 64 fresh' v)) [
                  | inl p ↦
                      let hv = fresh_below v h p in
                      let e = after_round v hv ∙ cond-true i (get_or level v 0) p in
                      p ∙ sym (and_intro (lt-ltb v n.benches hv) (eq-eqb (plus_of (get_or level'' v 0) 1) (i + 1) (omega (arith, e))))
                  | inr p ↦ p ∙ sym (elim (lt-or-le v n.benches) [
                    | inr out ↦ and-false_left (eqb (plus_of (get_or level'' v 0) 1) (i + 1)) (le-ltb v n.benches out)
                    | inl hv ↦
                        and-false_right (ltb v n.benches) (ne_eqb (plus_of (get_or level'' v 0) 1) (i + 1)
                        (λ q.
                        let e = after_round v hv ∙ cond-false i (get_or level v 0) p in
                        let at : get_or level v 0 ≡ i = omega (arith, e, q) in
                        let sooner = S.earlier v hv (within_now n.benches i level v in-time at) in
                        omega (arith, sooner, at)))
                  ])
                ];
                earlier = λ v h w. elim (split (is_set 64 fresh' v)) [
                  | inl p ↦ omega (arith, after_round v h ∙ cond-true i (get_or level v 0) p)
                  | inr p ↦
                      let e = after_round v h ∙ cond-false i (get_or level v 0) p in
                      let sooner = S.earlier v h (sym (within_of n.benches level'' level v e) ∙ w) in
                      omega (arith, e, sooner)
                ];
                waits =
                    waits_left n i joined'' level' level'' asked left in-time few (omega (arith, O.long_level, S.room_level)) step waits_asked;
                joins = nj;
                fakes = nf;
                forces = nd;
              }
