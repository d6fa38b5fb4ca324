-- A heavy job in arrays follows the procedure.
--     Priced            what the calls of `place` find before the classes change
--     closed-shown      the classes after a job that closes one
--     joined-shown      and after one that joins two
--     stuck_tried, placed-tried, light_tried      what one job more comes to: no placement, or these classes
use Prim.Native.Nat.{ℕ, ◌+◌, ◌-◌, ◌≤◌, ◌<◌, ◌^◌}
use mathlib.Core.Path.{◌≡◌, refl, sym, ap, ap₂, subst, ◌∙◌}
use mathlib.Core.Bool.{Bool, true, false, not, cond, ◌&&◌, ◌||◌}
use Rattle.std.specs.Prelude.{Some, None}
use mathlib.Core.Logic.{inl, inr}
use mathlib.Core.List.{List}
use native.Mathlib.Omega.{arith}
use lib.Dec.{eqb, leb}
use lib.ListN.{length, get_or}
use Rattle.bools.proofs.BoolLaws.{split, and_intro}
use Rattle.bits.specs.Bits.{is_set}
use Rattle.arrays.specs.Arrays.{plus_of, filled}
use Rattle.arrays.proofs.FilledLaws.{length-filled, get_or-filled}
use Rattle.placements.specs.Classes.{Heavies, Classes as Benches, cost, price_low, price_high, to_low, taken, paid, closes}
use Rattle.placements.specs.Classes.{raised, closed, joined, placed, stuck_at, going, put_job}
use Rattle.placements.proofs.ClassTheorem.{put_light, put_stuck, put-placed}
use Rattle.placing.specs.declared.classes.Bay.{Bay}
use Rattle.placing.specs.declared.classes.Classes.{Classes}
use Rattle.placing.specs.ClassArrays.{price_in, raise_of, relabel_of, Job, Modest, Shows, Tries}

module _ (bay : Bay) (c : Classes) (labels extra : List ℕ) (low high minutes : ℕ) where
  -- Which ends are shut, their prices, which is taken, what is paid, the sum so far, and their labels.
  pub record Priced (a b t : Bool) (x y pay base l h : ℕ) : Type 0 where
    pub low_shut : a ≡ is_set 64 c.shut low
    pub high_shut : b ≡ is_set 64 c.shut high
    pub low_price : x ≡ price_in extra bay.set low minutes
    pub high_price : y ≡ price_in extra bay.set high minutes
    pub to_low : t ≡ (not a && (b || leb x y))
    pub pays : pay ≡ cond t x y
    pub sums : base ≡ plus_of c.base pay
    pub low_label : l ≡ get_or labels low 0
    pub high_label : h ≡ get_or labels high 0

  module _ (g : Heavies) (s : Benches) (i : ℕ) (job : Job g i bay low high minutes) (few : Modest bay s)
      (shows : Shows s bay c labels extra) where
    abbrev m : ℕ
    m = bay.benches

    cost-small : (v : ℕ) → cost g i v < 2 ^ 20
    cost-small v = elim (split (g.inside v)) [
      | inl p ↦ rw p (omega (arith, job.minutes_are, job.minutes_small))
      | inr p ↦ rw p (omega arith)
    ]

    price_at : (v w : ℕ) → v ≡ w → v < m → price_in extra bay.set v minutes ≡ s.extra w + cost g i w
    price_at v w e l =
        let there : get_or extra v 0 ≡ s.extra w = shows.extra_are v l ∙ ap s.extra e in
        let here : is_set 64 bay.set v ≡ g.inside w = job.set_is v l ∙ ap g.inside e in
        let less : s.extra w < 2 ^ 30 = subst (λ (u : ℕ). s.extra u < 2 ^ 30) e (few.extra_small v l) in
        elim (split (g.inside w)) [
          | inl p ↦ rw (here, p, there) (omega (arith, job.minutes_are, job.minutes_small))
          | inr p ↦ rw (here, p, there) (omega arith)
        ]

    module _ {a b t : Bool} {x y pay base l h : ℕ} (P : Priced a b t x y pay base l h) where
      a_is : a ≡ s.shut (g.low i)
      a_is = P.low_shut ∙ shows.shut_are low job.low_below ∙ ap s.shut job.low_is

      b_is : b ≡ s.shut (g.high i)
      b_is = P.high_shut ∙ shows.shut_are high job.high_below ∙ ap s.shut job.high_is

      x_is : x ≡ price_low g s i
      x_is = P.low_price ∙ price_at low (g.low i) job.low_is job.low_below

      y_is : y ≡ price_high g s i
      y_is = P.high_price ∙ price_at high (g.high i) job.high_is job.high_below

      t_is : t ≡ to_low g s i
      unfolding to_low
      t_is =
          P.to_low
          ∙ ap₂ ◌&&◌ (ap not a_is) (ap₂ ◌||◌ b_is (ap₂ leb x_is y_is))

      pay_is : pay ≡ paid g s i
      pay_is = P.pays ∙ rw (t_is, x_is, y_is) refl

      low_less : s.extra (g.low i) < 2 ^ 30
      low_less = subst (λ (u : ℕ). s.extra u < 2 ^ 30) job.low_is (few.extra_small low job.low_below)

      high_less : s.extra (g.high i) < 2 ^ 30
      high_less = subst (λ (u : ℕ). s.extra u < 2 ^ 30) job.high_is (few.extra_small high job.high_below)

      low_small : price_low g s i < 2 ^ 31
      low_small = omega (arith, low_less, cost-small (g.low i))

      high_small : price_high g s i < 2 ^ 31
      high_small = omega (arith, high_less, cost-small (g.high i))

      paid-small : paid g s i < 2 ^ 31
      paid-small = elim (split (to_low g s i)) [
        | inl p ↦ rw p low_small
        | inr p ↦ rw p high_small
      ]

      base_is : base ≡ s.base + paid g s i
      base_is = P.sums ∙ ap₂ plus_of shows.base_is pay_is ∙ omega (arith, few.base_small, paid-small)

      l_is : l ≡ s.label (g.low i)
      l_is = P.low_label ∙ shows.labels_are low job.low_below ∙ ap s.label job.low_is

      h_is : h ≡ s.label (g.high i)
      h_is = P.high_label ∙ shows.labels_are high job.high_below ∙ ap s.label job.high_is

      closes-is : ((a || b) || eqb l h) ≡ closes g s i
      closes-is = ap₂ ◌||◌ (ap₂ ◌||◌ a_is b_is) (ap₂ eqb l_is h_is)

      -- ── the last free bench of a class ──

      label_by : (v : Bool)
          → cond v (s.label (g.low i)) (s.label (g.high i)) ≡ s.label (cond v (g.low i) (g.high i))
      label_by true = refl
      label_by false = refl

      pub closed-shown : {ends : Bool} {label shut : ℕ} → ends ≡ ((a || b) || eqb l h) → ends ≡ true
          → label ≡ cond t l h
          → ((v : ℕ) → v < m → v < 64
          → is_set 64 shut v ≡ (is_set 64 c.shut v || eqb (get_or labels v 0) label))
          → Shows (placed g s i) bay (record { shut = shut; base = base }) labels extra
      unfolding placed
      closed-shown {label = label} {shut = shut} e p q all =
          let its : label ≡ s.label (taken g s i) = q ∙ rw (t_is, l_is, h_is) (label_by (to_low g s i)) in
          let now : Shows (closed g s i) bay (record { shut = shut; base = base }) labels extra =
          record {
            labels_room = shows.labels_room;
            extra_room = shows.extra_room;
            labels_are = shows.labels_are;
            extra_are = shows.extra_are;
            shut_are = λ v r.
                all v r (omega (arith, job.few_benches))
                ∙ ap₂ ◌||◌ (shows.shut_are v r) (ap₂ eqb (shows.labels_are v r) its);
            base_is = base_is;
          } in
          rw (sym closes-is ∙ sym e ∙ p) now

      -- ── one class of two ──

      module _ {labels' extra' : List ℕ} (ends : Bool) where
        pub joined-shown : ends ≡ ((a || b) || eqb l h) → ends ≡ false
            → {up down : ℕ} → up ≡ y - pay → down ≡ x - pay
            → (m ≤ length labels → m ≤ length extra
            → extra' ≡ filled m (λ v. plus_of (get_or extra v 0) (raise_of l h up down (get_or labels v 0))) extra)
            → (m ≤ length labels → m ≤ length extra → labels' ≡ filled m (λ v. relabel_of l h (get_or labels v 0)) labels)
            → Shows (placed g s i) bay (record { shut = c.shut; base = base }) labels' extra'
        unfolding placed
        joined-shown e p {up = up} {down = down} u d raises labelled =
            let ex = raises shows.labels_room shows.extra_room in
            let la = labelled shows.labels_room shows.extra_room in
            let up_is : up ≡ price_high g s i - paid g s i = u ∙ ap₂ ◌-◌ y_is pay_is in
            let down_is : down ≡ price_low g s i - paid g s i = d ∙ ap₂ ◌-◌ x_is pay_is in
            let raise-is : (v : ℕ) → v < m → raise_of l h up down (get_or labels v 0) ≡ raised g s i v =
            λ v r. rw (shows.labels_are v r, l_is, h_is, up_is, down_is) refl in
            let raise-small : (v : ℕ) → raised g s i v < 2 ^ 31 = λ v.
            elim (split (eqb (s.label v) (s.label (g.low i)))) [
              | inl z ↦ rw z (omega (arith, high_small))
              | inr z ↦ elim (split (eqb (s.label v) (s.label (g.high i)))) [
                | inl k ↦ rw (z, k) (omega (arith, low_small))
                | inr k ↦ rw (z, k) (omega arith)
              ]
            ] in
            let now : Shows (joined g s i) bay (record { shut = c.shut; base = base }) labels' extra' =
            record {
              labels_room = omega (
                arith,
                shows.labels_room,
                ap length la,
                length-filled (λ v. relabel_of l h (get_or labels v 0)) m labels,
              );
              extra_room = omega (
                arith,
                shows.extra_room,
                ap length ex,
                length-filled (λ v. plus_of (get_or extra v 0) (raise_of l h up down (get_or labels v 0))) m extra,
              );
              labels_are = λ v r.
                  ap (λ (k : List ℕ). get_or k v 0) la
                  ∙ get_or-filled (λ v. relabel_of l h (get_or labels v 0)) m labels v 0 r
                  (omega (arith, shows.labels_room))
                  ∙ rw (shows.labels_are v r, l_is, h_is) refl;
              extra_are = λ v r.
                  ap (λ (k : List ℕ). get_or k v 0) ex
                  ∙ get_or-filled (λ v. plus_of (get_or extra v 0) (raise_of l h up down (get_or labels v 0))) m extra v 0 r
                  (omega (arith, shows.extra_room))
                  ∙ ap₂ plus_of (shows.extra_are v r) (raise-is v r)
                  ∙ omega (arith, few.extra_small v r, raise-small v);
              shut_are = shows.shut_are;
              base_is = base_is;
            } in
            rw (sym closes-is ∙ sym e ∙ p) now

-- ── what one job more comes to ──

module _ (g : Heavies) (s : Benches) (i : ℕ) (bay : Bay) (c : Classes) (labels extra : List ℕ)
    (shows : Shows s bay c labels extra) where
  module _ (low high minutes : ℕ) (job : Job g i bay low high minutes) (heavy : g.heavy i ≡ true) where
    stuck_is : (is_set 64 c.shut low && is_set 64 c.shut high) ≡ stuck_at g s i
    stuck_is =
        ap₂ ◌&&◌ (shows.shut_are low job.low_below ∙ ap s.shut job.low_is)
        (shows.shut_are high job.high_below ∙ ap s.shut job.high_is)

    pub stuck_tried : is_set 64 c.shut low ≡ true → is_set 64 c.shut high ≡ true
        → Tries (put_job g (going s) i) bay None labels extra
    stuck_tried p q =
        record {
          is_stuck = λ e. put_stuck g i s heavy (sym stuck_is ∙ and_intro p q);
          is_going = λ k e. cc;
        }

    pub placed-tried : (is_set 64 c.shut low && is_set 64 c.shut high) ≡ false
        → {r : Classes} {labels' extra' : List ℕ} → Shows (placed g s i) bay r labels' extra'
        → Tries (put_job g (going s) i) bay (Some r) labels' extra'
    placed-tried p {r} {labels'} {extra'} now =
        record {
          is_stuck = λ q. cc;
          is_going = λ k q.
              let same : r ≡ k = cc in (
                placed g s i,
                put-placed g i s heavy (sym stuck_is ∙ p),
                subst (λ (k : Classes). Shows (placed g s i) bay k labels' extra') same now,
              );
        }

  pub light_tried : g.heavy i ≡ false → Tries (put_job g (going s) i) bay (Some c) labels extra
  light_tried p =
      record {
        is_stuck = λ q. cc;
        is_going = λ k q.
            let same : c ≡ k = cc in (
              s,
              put_light g i (going s) p,
              subst (λ (k : Classes). Shows s bay k labels extra) same shows,
            );
      }
