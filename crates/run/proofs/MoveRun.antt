-- After the move of a push the shifted arrays show the next state.
--     held_choices         the choices of the jobs show the board's pebbles
--     owned_sums           the loads that an array shows are the sums of the weights
--     moved_owned, moved_reach     the loads and the benches in reach of the next state
use Prim.Native.Nat.{ℕ, ◌+◌, ◌-◌, ◌*◌, ◌≤◌, ◌<◌, ◌^◌}
use mathlib.Core.Path.{◌≡◌, refl, sym, ap, ap₂, ◌∙◌}
use mathlib.Core.Logic.{◌≢◌, inl, inr}
use mathlib.Core.Bool.{Bool, true, false, not, ◌&&◌, ◌||◌}
use mathlib.Core.List.{List}
use native.Mathlib.Omega.{arith}
use lib.Dec.{eqb}
use lib.ListN.{length, get_or, set}
use lib.Seq.{get_or-set_same, get_or-set_other}
use borrow.Author.Tests.{eq-eqb, ne_eqb}
use Rattle.bools.proofs.BoolLaws.{split, clash, and_intro, and_left, and_right, and-false_right, or_right, not-true, or_nothing, eqb_sym}
use Rattle.bools.proofs.OrderLaws.{eq-or-ne}
use Rattle.sums.specs.Sum.{on, sum}
use Rattle.sums.specs.Search.{any}
use Rattle.sums.proofs.SumLaws.{sum_cong, sum-update, sum-term}
use Rattle.sums.proofs.SearchLaws.{any_cong, any_intro, any_elim}
use Rattle.bits.specs.Bits.{is_set}
use Rattle.bits.proofs.SetBits.{is_set-zero}
use Rattle.push.specs.KeptArrays.{shifted_of, lies_at, ReachShifted, Chosen}
use Rattle.push.specs.PushArrays.{Choices}
use Rattle.day.specs.Day.{Day, heavy, pebble, scale}
use Rattle.algorithm.specs.Rocks.{rock, weight}
use Rattle.algorithm.specs.Start.{State}
use Rattle.algorithm.specs.Run.{board_of}
use Rattle.algorithm.proofs.Peeling.{start-peeled}
use Rattle.rocks.specs.declared.rocks.Limits.{Limits}
use Rattle.rocks.specs.BoardArrays.{Owned}
use Rattle.explore.specs.ExploreArrays.{Reaches}
use Rattle.run.specs.Held.{Ready, Held}
use Rattle.loads.specs.Loads.{amount_on}
use Rattle.run.proofs.HeldLaws.{own-sum, same_left, held-rocks, held_owned}
use Rattle.push.proofs.KeptRun.{shifted_load}

-- ── after a move ──

module _ (d : Day) (n : Limits) (low high weights amount : List ℕ) (pebbles : List Bool) (allowed : List ℕ)
    (R : Ready d n low high weights amount pebbles allowed) (m : ℕ) (s : State) (left : List Bool) (place : List ℕ) (H : Held d m s left place) where
  pub owned_sums : (own : List ℕ) → Owned (board_of d s) own → (v : ℕ) → v < d.benches
      → get_or own v 0 ≡ scale d * d.booked v + sum d.jobs (amount_on amount left place v)
  owned_sums own O v h =
      O.entries v h ∙ own-sum d n low high weights amount pebbles allowed R m s left place H v
      ∙ ap (λ (k : ℕ). scale d * d.booked v + k)
      (sum_cong d.jobs (λ j. on (not (get_or s.left j false) && eqb (get_or s.place j 0) v) (weight d j)) (amount_on amount left place v)
      (λ j l. rw (H.lefts j l, H.places j l, R.amounts j l)))

  -- The choice of a job has the benches that it allows if it is a pebble.
  choice_day : (choice : List ℕ) → Chosen n.jobs pebbles allowed choice → (j y : ℕ) → j < d.jobs → y < d.benches
      → is_set 64 (get_or choice j 0) y ≡ (pebble d j && d.allows j y)
  choice_day choice C j y h l = elim (split (pebble d j)) [
    | inl p ↦
        let e : get_or choice j 0 ≡ get_or allowed j 0 = C j (omega (arith, R.jobs)) ∙ rw (R.pebbly j h, p) in
        ap (λ (k : ℕ). is_set 64 k y) e ∙ rw p (R.allowing j y h l)
    | inr p ↦
        let e : get_or choice j 0 ≡ 0 = C j (omega (arith, R.jobs)) ∙ rw (R.pebbly j h, p) in
        ap (λ (k : ℕ). is_set 64 k y) e ∙ rw p (is_set-zero 64 y)
  ]

  pub held_choices : (choice : List ℕ) → Chosen n.jobs pebbles allowed choice → Choices (board_of d s) choice place
  held_choices choice C = record { allow = choice_day choice C; lie = λ j h p. H.places j h }

  -- A pebble is no rock, so it is not left.
  pebble-placed : (j : ℕ) → j < d.jobs → pebble d j ≡ true → get_or left j false ≡ false
  pebble-placed j h is = elim (split (get_or left j false)) [
    | inr p ↦ p
    | inl p ↦
        let is-rock : rock d j ≡ true = (start-peeled d R.sound).left_rock j h (sym (same_left d n low high weights amount pebbles allowed R m s left place H j) ∙ sym (H.lefts j h) ∙ p) in
        clash (and_left (heavy d j) _ is-rock) (not-true (heavy d j) (and_left (not (heavy d j)) _ is))
  ]

  module _ (job bench : ℕ) (below : job < d.jobs) (benched : bench < d.benches) (is : pebble d job ≡ true) (place' : List ℕ) (ep : place' ≡ set place job bench)
      (m' : ℕ) (s' : State) (H' : Held d m' s' left place') where
    abbrev u : ℕ
    u = get_or place job 0

    abbrev w : ℕ
    w = get_or amount job 0

    place_same : (i : ℕ) → i ≢ job → get_or place' i 0 ≡ get_or place i 0
    place_same i ne = ap (λ (xs : List ℕ). get_or xs i 0) ep ∙ get_or-set_other place job i bench 0 ne

    place_new : get_or place' job 0 ≡ bench
    place_new = ap (λ (xs : List ℕ). get_or xs job 0) ep ∙ get_or-set_same place job bench 0 (omega (arith, H.room))

    -- What the job puts on bench v, before and after.
    put_before : (v : ℕ) → amount_on amount left place v job ≡ on (eqb u v) w
    put_before v = rw (pebble-placed job below is)

    put_after : (v : ℕ) → amount_on amount left place' v job ≡ on (eqb bench v) w
    put_after v = rw (pebble-placed job below is, place_new)

    sums_moved : (v : ℕ) → sum d.jobs (amount_on amount left place v) + on (eqb bench v) w ≡ sum d.jobs (amount_on amount left place' v) + on (eqb u v) w
    sums_moved v =
        let kept = sum-update d.jobs (amount_on amount left place v) (amount_on amount left place' v) job below
        (λ i h ne. ap (λ (k : ℕ). on (not (get_or left i false) && eqb k v) (get_or amount i 0)) (sym (place_same i ne))) in
        omega (arith, kept, put_before v, put_after v)

    pub moved_owned : (own own' : List ℕ) → length own ≡ 64 → Owned (board_of d s) own → own' ≡ shifted_of own u bench w → Owned (board_of d s') own'
    moved_owned own own' sized O e =
        held_owned d n low high weights amount pebbles allowed R m' s' left place' H' own'
        (λ v h fits.
        let now-sum = owned_sums own O v h in
        let part : on (eqb u v) w ≤ sum d.jobs (amount_on amount left place v) =
        omega (arith, sum-term d.jobs (amount_on amount left place v) job below, put_before v) in
        let w-small : w < 2 ^ 62 = omega (arith, R.amounts job below, sum-term d.jobs (weight d) job below, R.light v) in
        let more = sums_moved v in
        let flip1 : eqb v u ≡ eqb u v = eqb_sym v u in
        let flip2 : eqb v bench ≡ eqb bench v = eqb_sym v bench in
        let small : get_or own v 0 < 2 ^ 63 + 2 ^ 62 = omega (arith, now-sum, more, fits, on-small (eqb u v) w w-small) in
        let entry : get_or own' v 0 ≡ (get_or own v 0 - on (eqb v u) w) + on (eqb v bench) w =
        ap (λ (xs : List ℕ). get_or xs v 0) e ∙ shifted_load own u bench w v (omega (arith, sized, R.few_benches)) (omega (arith, small, w-small)) in
        entry ∙ rw (flip1, flip2) (omega (arith, now-sum, more, part)))
      where
        on-small : (a : Bool) (x : ℕ) → x < 2 ^ 62 → on a x < 2 ^ 62
        on-small true x h = h
        on-small false x h = omega arith

    module _ (choice : List ℕ) (C : Chosen n.jobs pebbles allowed choice) where
      -- The day's own words for the benches in reach of a bench.
      lies_day : (t : State) (q : ℕ) (pl : List ℕ) (K : Held d q t left pl) (x y : ℕ) → y < d.benches
          → any d.jobs (lies_at choice pl x y) ≡ any d.jobs (λ j. pebble d j && eqb (get_or t.place j 0) x && d.allows j y)
      lies_day t q pl K x y hy =
          any_cong d.jobs (lies_at choice pl x y) (λ j. pebble d j && eqb (get_or t.place j 0) x && d.allows j y)
          (λ j h. ap₂ (λ (k : ℕ) (a : Bool). eqb k x && a) (K.places j h) (choice_day choice C j y h hy)
          ∙ first_two (pebble d j) (eqb (get_or t.place j 0) x) (d.allows j y))
        where
          first_two : (a b c : Bool) → (b && (a && c)) ≡ ((a && b) && c)
          first_two true true c = refl
          first_two true false c = refl
          first_two false b c = and-false_right b refl

      other_lies : (x y j : ℕ) → j ≢ job → lies_at choice place x y j ≡ lies_at choice place' x y j
      other_lies x y j far = ap (λ (k : ℕ). eqb k x && is_set 64 (get_or choice j 0) y) (sym (place_same j far))

      u-below : u < d.benches
      u-below =
          let S = (held-rocks d n low high weights amount pebbles allowed R m s left place H).sound in
          omega (arith, H.places job below, S.allowed_below job (get_or s.place job 0) below (S.pebble_allowed job below is))

      -- A job that is on u now was on u before.
      had : (reaches : List ℕ) → Reaches (board_of d s) reaches → (y : ℕ) → y < d.benches
          → any n.jobs (lies_at choice place' u y) ≡ true → is_set 64 (get_or reaches u 0) y ≡ true
      had reaches F y hy p =
          let (j, l, q) = any_elim n.jobs (lies_at choice place' u y) p in
          let h : j < d.jobs = omega (arith, R.jobs) in
          F.entries u y u-below hy ∙ sym (lies_day s m place H u y hy)
          ∙ any_intro d.jobs (lies_at choice place u y) j h
          (elim (eq-or-ne j job) [
            | inl e ↦
                let chosen : is_set 64 (get_or choice j 0) y ≡ true = and_right (eqb (get_or place' j 0) u) (is_set 64 (get_or choice j 0) y) q in
                and_intro (eq-eqb (get_or place j 0) u (ap (λ (k : ℕ). get_or place k 0) e)) chosen
            | inr far ↦ other_lies u y j far ∙ q
          ])

      pub moved_reach : (reaches reaches' : List ℕ) → length reaches ≡ 64 → Reaches (board_of d s) reaches → ReachShifted n.jobs choice place' reaches u bench job reaches'
          → Reaches (board_of d s') reaches'
      moved_reach reaches reaches' sized F S =
          record {
            entries = λ x y hx hy.
                let step = S x y (omega (arith, sized, R.few_benches)) (omega (arith, R.few_benches)) (had reaches F y hy) in
                let all-jobs : any n.jobs (lies_at choice place' u y) ≡ any d.jobs (lies_at choice place' u y) =
                ap (λ (k : ℕ). any k (lies_at choice place' u y)) R.jobs in
                elim (eq-or-ne x u) [
                  | inl e ↦
                      step ∙ rw (eq-eqb x u e)
                      (all-jobs ∙ ap (λ (k : ℕ). any d.jobs (lies_at choice place' k y)) (sym e) ∙ lies_day s' m' place' H' x y hy)
                  | inr ne ↦
                      let old : is_set 64 (get_or reaches x 0) y ≡ any d.jobs (lies_at choice place x y) =
                      F.entries x y hx hy ∙ sym (lies_day s m place H x y hy) in
                      let was : lies_at choice place x y job ≡ false = rw (ne_eqb u x (λ q. ne (sym q))) in
                      elim (eq-or-ne x bench) [
                        | inl e ↦
                            let comes : lies_at choice place' x y job ≡ is_set 64 (get_or choice job 0) y = rw (place_new, eq-eqb bench x (sym e)) in
                            let there : is_set 64 (get_or reaches bench 0) y ≡ is_set 64 (get_or reaches x 0) y = ap (λ (k : ℕ). is_set 64 (get_or reaches k 0) y) (sym e) in
                            step ∙ rw (ne_eqb x u ne, eq-eqb x bench e)
                            (ap₂ (λ (a b : Bool). a || b) (there ∙ old) (sym comes)
                            ∙ any-one d.jobs (lies_at choice place x y) (lies_at choice place' x y) job below (λ j h far. other_lies x y j far) was
                            ∙ lies_day s' m' place' H' x y hy)
                        | inr far ↦
                            let still : lies_at choice place' x y job ≡ false = rw (place_new, ne_eqb bench x (λ q. far (sym q))) in
                            step ∙ rw (ne_eqb x u ne, ne_eqb x bench far)
                            (old
                            ∙ any_cong d.jobs (lies_at choice place x y) (lies_at choice place' x y)
                            (λ j h. elim (eq-or-ne j job) [
                              | inl q ↦ rw q (was ∙ sym still)
                              | inr q ↦ other_lies x y j q
                            ])
                            ∙ lies_day s' m' place' H' x y hy)
                      ]
                ];
          }
        where
          -- One more job meets the test.
          any-one : (k : ℕ) (f g : ℕ → Bool) (j : ℕ) → j < k → ((i : ℕ) → i < k → i ≢ j → f i ≡ g i) → f j ≡ false → (any k f || g j) ≡ any k g
          any-one k f g j h same none = elim (split (g j)) [
            | inl p ↦ rw p (or_right (any k f) refl ∙ sym (any_intro k g j h p))
            | inr p ↦ rw p (or_nothing (any k f) ∙ any_cong k f g (λ i l. elim (eq-or-ne i j) [ inl q ↦ rw q (none ∙ sym p) | inr q ↦ same i l q ]))
          ]
