-- One job more: what the procedure keeps, it keeps.
--     light_job         a job that is not heavy changes nothing
--     no-more-room      where both ends of a heavy job are shut there is no placement
--     closed-sound      a heavy job that takes the last free bench of a class
--     joined-sound      a heavy job between two open classes
--     placed-sound      either
use Prim.Native.Nat.{ℕ, suc, ◌+◌, ◌-◌, ◌≤◌, ◌<◌}
use mathlib.Core.Path.{◌≡◌, refl, sym, ap, subst, ◌∙◌}
use mathlib.Core.Bool.{Bool, true, false, not, ◌&&◌, ◌||◌}
use mathlib.Core.Logic.{◌⊎◌, inl, inr, ◌≢◌}
use native.Mathlib.Omega.{arith}
use lib.Dec.{eqb}
use borrow.Author.Tests.{eqb-true, eq-eqb, ne_eqb}
use Rattle.bools.proofs.BoolLaws.{split, clash, and_intro, and_left, and_right, or_elim, or_left, or_right}
use Rattle.bools.proofs.BoolLaws.{or-false_left}
use Rattle.bools.proofs.BoolLaws.{or_nothing, not-true}
use Rattle.bools.proofs.OrderLaws.{last_or_below}
use Rattle.sums.specs.Sum.{on, sum}
use Rattle.sums.specs.Search.{any}
use Rattle.sums.proofs.SearchLaws.{any_elim, any_none}
use Rattle.sums.proofs.SumLaws.{sum_cong, sum-le}
use Rattle.sums.proofs.MoreSumLaws.{on-le-on}
use Rattle.placements.specs.Classes.{Heavies, Classes, cost, taken, paid, stuck_at, closes}
use Rattle.placements.specs.Classes.{closed, joined, raised, relabelled, placed}
use Rattle.placements.proofs.ClassSums.{raised_once, raised_there}
use Rattle.placements.proofs.ClassFacts.{held, spent, total, Puts, Free, Sound, puts_before, held-before}
use Rattle.placements.proofs.ClassFacts.{held-here, was_free, spent-at_least, end_open}
use Rattle.placements.proofs.ClassChoice.{takes_end, paid-low, paid-high, closes-same, Joins, joins}
use Rattle.placements.proofs.ClassChoice.{as_before, low_high, high_low, relabel_cases, relabel_same}
use Rattle.placements.proofs.ClassChoice.{relabel_joined}
use Rattle.placements.proofs.ClassChoice.{raised-by-high, raised-by-low}
use Rattle.placements.proofs.ClassUpper.{put-on-end, small_numbers}

-- ── a light job ──

module _ (g : Heavies) (m i : ℕ) (s : Classes) (S : Sound g m i s) (light : g.heavy i ≡ false) where
  puts-more : (place : ℕ → ℕ) → Puts g i place → Puts g (suc i) place
  puts-more place P =
      record {
        on_end = λ j l p. elim (last_or_below l) [
          | inl q ↦ clash p (ap g.heavy q ∙ light)
          | inr q ↦ P.on_end j q p
        ];
        apart = λ j k l t p q e. elim (last_or_below t) [
          | inl r ↦ clash q (ap g.heavy r ∙ light)
          | inr r ↦ P.apart j k l r p q e
        ];
      }

  held_same : (place : ℕ → ℕ) (b : ℕ) → held g (suc i) place b ≡ held g i place b
  held_same place b = rw light (or_nothing (held g i place b))

  spent-same : (place : ℕ → ℕ) → spent g (suc i) place ≡ spent g i place
  spent-same place = rw light (omega arith)

  free_same : (place : ℕ → ℕ) → sum m (λ b. on (not (held g (suc i) place b)) (s.extra b))
      ≡ sum m (λ b. on (not (held g i place b)) (s.extra b))
  free_same place =
      sum_cong m (λ b. on (not (held g (suc i) place b)) (s.extra b)) (λ b. on (not (held g i place b)) (s.extra b))
      (λ b l. ap (λ (t : Bool). on (not t) (s.extra b)) (held_same place b))

  pub light_job : Sound g m (suc i) s
  light_job =
      record {
        none_free = λ place P b l p. held_same place b ∙ S.none_free place (puts_before g i place P) b l p;
        one_free = λ place P b c l t e p q.
            S.one_free place (puts_before g i place P) b c l t e
            (sym (held_same place b) ∙ p) (sym (held_same place c) ∙ q);
        no_less = λ place P.
            omega (arith, S.no_less place (puts_before g i place P), spent-same place, free_same place);
        reached = λ f free.
            let (place, P, left, most) = S.reached f free in (
              place,
              puts-more place P,
              λ b l p. held_same place b ∙ left b l p,
              omega (arith, most, spent-same place),
            );
        alike = S.alike;
        small = λ b l. omega (arith, S.small b l);
      }

-- ── a heavy job ──

module _ (g : Heavies) (m i : ℕ) (s : Classes) (S : Sound g m i s) (heavy : g.heavy i ≡ true)
    (low_below : g.low i < m) (high-below : g.high i < m) where
  abbrev low : ℕ
  low = g.low i

  abbrev high : ℕ
  high = g.high i

  -- What holds of both ends holds of the bench that the job is put on.
  at_end : (place : ℕ → ℕ) → Puts g (suc i) place → (Q : ℕ → Type 0) → Q low → Q high → Q (place i)
  at_end place P Q p q = elim (P.on_end i (omega arith) heavy) [
    | inl e ↦ subst Q (sym e) p
    | inr e ↦ subst Q (sym e) q
  ]

  below : (place : ℕ → ℕ) → Puts g (suc i) place → place i < m
  below place P = at_end place P (λ b. b < m) low_below high-below

  its_end_open : (place : ℕ → ℕ) → (P : Puts g (suc i) place) → s.shut (place i) ≡ false
  its_end_open place P = end_open g i heavy place P m s S (below place P)

  pub no-more-room : stuck_at g s i ≡ true → (place : ℕ → ℕ) → Puts g (suc i) place → ⊥
  no-more-room both place P =
      clash
      (at_end place P (λ b. s.shut b ≡ true) (and_left (s.shut low) (s.shut high) both)
      (and_right (s.shut low) (s.shut high) both))
      (its_end_open place P)

  -- No two free benches of one class: so no free bench has the label of the end that was taken.
  others_away : (place : ℕ → ℕ) (P : Puts g (suc i) place) (b : ℕ) → b < m → held g (suc i) place b ≡ false
      → s.label b ≢ s.label (place i)
  others_away place P b l p e =
      let same : b ≡ place i =
      S.one_free place (puts_before g i place P) b (place i) l (below place P) e
      (held-before g i heavy place b p) (was_free g i heavy place P) in
      clash (ap (held g (suc i) place) same ∙ held-here g i heavy place) p

  -- An open end may be free too, where no bench of its class is to be.
  module _ (f : ℕ → Bool) (e : ℕ) where
    abbrev Away : Type 0
    Away = (b : ℕ) → b < m → f b ≡ true → s.label b ≢ s.label e

    end_out : e < m → Away → f e ≡ false
    end_out l away = elim (split (f e)) [ inl p ↦ absurd (away e l p refl) | inr p ↦ p ]

    with_end : s.shut e ≡ false → Free m s f → Away → Free m s (λ b. f b || eqb b e)
    with_end is_open free away =
        record {
          unshut = λ b l p. elim (or_elim (f b) (eqb b e) p) [
            | inl q ↦ free.unshut b l q
            | inr q ↦ ap s.shut (eqb-true b e q) ∙ is_open
          ];
          one_each = λ b c l t p q same.
              elim (or_elim (f b) (eqb b e) p) [
                | inl x ↦ elim (or_elim (f c) (eqb c e) q) [
                  | inl y ↦ free.one_each b c l t x y same
                  | inr y ↦ absurd (away b l x (same ∙ ap s.label (eqb-true c e y)))
                ]
                | inr x ↦ elim (or_elim (f c) (eqb c e) q) [
                  | inl y ↦ absurd (away c t y (sym same ∙ ap s.label (eqb-true b e x)))
                  | inr y ↦ eqb-true b e x ∙ sym (eqb-true c e y)
                ]
              ];
        }

  total-more : total g i ≤ total g (suc i)
  total-more = omega arith

  module _ (room : stuck_at g s i ≡ false) where
    taken-end : (taken g s i ≡ low) ⊎ (taken g s i ≡ high)
    taken-end = elim (takes_end g s i room) [ inl t ↦ inl t.takes | inr t ↦ inr t.takes ]

    taken-open : s.shut (taken g s i) ≡ false
    taken-open = elim (takes_end g s i room) [
      | inl t ↦ ap s.shut t.takes ∙ t.end_open
      | inr t ↦ ap s.shut t.takes ∙ t.end_open
    ]

    taken-below : taken g s i < m
    taken-below = elim (takes_end g s i room) [
      | inl t ↦ rw t.takes low_below
      | inr t ↦ rw t.takes high-below
    ]

    -- Its price is paid.
    taken-price : s.extra (taken g s i) + cost g i (taken g s i) ≡ paid g s i
    taken-price = elim (takes_end g s i room) [
      | inl t ↦ ap (λ (b : ℕ). s.extra b + cost g i b) t.takes ∙ sym t.pays
      | inr t ↦ ap (λ (b : ℕ). s.extra b + cost g i b) t.takes ∙ sym t.pays
    ]

    price_at_least : (place : ℕ → ℕ) → Puts g (suc i) place
        → paid g s i ≤ s.extra (place i) + cost g i (place i)
    price_at_least place P =
        at_end place P (λ b. s.shut b ≡ false → paid g s i ≤ s.extra b + cost g i b)
        (paid-low g s i) (paid-high g s i) (its_end_open place P)

    -- ── the last free bench of a class ──

    module _ (last : closes g s i ≡ true) where
      abbrev shut_now : ℕ → Bool
      shut_now b = s.shut b || eqb (s.label b) (s.label (taken g s i))

      one_class : s.shut low ≡ false → s.shut high ≡ false → s.label low ≡ s.label high
      one_class p q = closes-same g s i last p q

      -- An open end is in the class of the end that is taken.
      open_end : (place : ℕ → ℕ) → Puts g (suc i) place → s.label (place i) ≡ s.label (taken g s i)
      open_end place P =
          at_end place P (λ b. s.shut b ≡ false → s.label b ≡ s.label (taken g s i))
          (λ p. elim (takes_end g s i room) [
            | inl t ↦ ap s.label (sym t.takes)
            | inr t ↦ one_class p t.end_open ∙ ap s.label (sym t.takes)
          ])
          (λ q. elim (takes_end g s i room) [
            | inl t ↦ sym (one_class t.end_open q) ∙ ap s.label (sym t.takes)
            | inr t ↦ ap s.label (sym t.takes)
          ])
          (its_end_open place P)

      shut-held : (place : ℕ → ℕ) → Puts g (suc i) place → (b : ℕ) → b < m → shut_now b ≡ true
          → held g (suc i) place b ≡ true
      shut-held place P b l p = elim (split (held g (suc i) place b)) [
        | inl t ↦ t
        | inr t ↦ elim (or_elim (s.shut b) (eqb (s.label b) (s.label (taken g s i))) p) [
          | inl q ↦ clash (S.none_free place (puts_before g i place P) b l q) (held-before g i heavy place b t)
          | inr q ↦ absurd (others_away place P b l t
              (eqb-true (s.label b) (s.label (taken g s i)) q ∙ sym (open_end place P)))
        ]
      ]

      module _ (f : ℕ → Bool) (free : Free m (closed g s i) f) where
        class_out : (b : ℕ) → b < m → f b ≡ true → s.label b ≢ s.label (taken g s i)
        class_out b l p e =
            clash (or_right (s.shut b) (eq-eqb (s.label b) (s.label (taken g s i)) e)) (free.unshut b l p)

        alone : Free m s f
        alone =
            record {
              unshut = λ b l p.
                  or-false_left (s.shut b) (eqb (s.label b) (s.label (taken g s i))) (free.unshut b l p);
              one_each = free.one_each;
            }

      pub closed-sound : Sound g m (suc i) (closed g s i)
      closed-sound =
          record {
            none_free = shut-held;
            one_free = λ place P b c l t e p q.
                S.one_free place (puts_before g i place P) b c l t e
                (held-before g i heavy place b p) (held-before g i heavy place c q);
            no_less = λ place P.
                omega (
                  arith,
                  spent-at_least g i heavy place P m s S (below place P),
                  price_at_least place P,
                );
            reached = λ f free.
                put-on-end g m i s S heavy (taken g s i) taken-below taken-end f s.extra (paid g s i)
                (end_out f (taken g s i) taken-below (class_out f free))
                (with_end f (taken g s i) taken-open (alone f free) (class_out f free)) (omega (arith, taken-price));
            alike = λ b c l t e. rw (S.alike b c l t e, e) refl;
            small = λ b l. omega (arith, S.small b l, total-more);
          }

    -- ── one class of two ──

    module _ (apart : closes g s i ≡ false) where
      two : Joins g s i
      two = joins g s i apart

      abbrev more : ℕ → ℕ
      more b = s.extra b + raised g s i b

      -- Of an end, and the other end: benches outside the end's class cost more in the other's only.
      record Side (end other : ℕ) : Type 0 where
        price : paid g s i ≤ s.extra end + cost g i end
        rises : (b : ℕ) → s.label b ≢ s.label end
            → raised g s i b ≡ on (eqb (s.label b) (s.label other)) (s.extra end + cost g i end - paid g s i)

      low-side : Side low high
      low-side = record { price = paid-low g s i two.low_open; rises = raised-by-low g s i }

      high-side : Side high low
      high-side = record { price = paid-high g s i two.high_open; rises = raised-by-high g s i }

      its_side : (place : ℕ → ℕ) → Puts g (suc i) place → (other : ℕ) × Side (place i) other
      its_side place P =
          at_end place P (λ b. (other : ℕ) × Side b other) (high, low-side) (low, high-side)

      joined-no_less : (place : ℕ → ℕ) → Puts g (suc i) place
          → s.base + paid g s i + sum m (λ b. on (not (held g (suc i) place b)) (more b)) ≤ spent g (suc i) place
      joined-no_less place P =
          let (other, side) = its_side place P in
          let dearer : sum m (λ b. on (not (held g (suc i) place b)) (more b))
          ≤ sum m (λ b. on (not (held g (suc i) place b)) (s.extra b))
          + (s.extra (place i) + cost g i (place i) - paid g s i) =
          raised_once m s.extra more (λ b. not (held g (suc i) place b))
          (s.extra (place i) + cost g i (place i) - paid g s i) (λ b. eqb (s.label b) (s.label other))
          (λ b l p. omega (arith, side.rises b (others_away place P b l (not-true (held g (suc i) place b) p))))
          (λ b c l t p q x y.
          S.one_free place (puts_before g i place P) b c l t
          (eqb-true (s.label b) (s.label other) x ∙ sym (eqb-true (s.label c) (s.label other) y))
          (held-before g i heavy place b (not-true (held g (suc i) place b) p))
          (held-before g i heavy place c (not-true (held g (suc i) place c) q))) in
          omega (arith, dearer, side.price, spent-at_least g i heavy place P m s S (below place P))

      joined-one_free : (place : ℕ → ℕ) → Puts g (suc i) place → (b c : ℕ) → b < m → c < m
          → relabelled g s i b ≡ relabelled g s i c
          → held g (suc i) place b ≡ false → held g (suc i) place c ≡ false → b ≡ c
      joined-one_free place P b c l t e p q =
          let away-b = others_away place P b l p in
          let away-c = others_away place P c t q in
          elim (relabel_cases g s i b c e) [
            | as_before same ↦
                S.one_free place (puts_before g i place P) b c l t same
                (held-before g i heavy place b p) (held-before g i heavy place c q)
            | low_high x y ↦
                absurd (at_end place P (λ v. s.label b ≢ s.label v → s.label c ≢ s.label v → ⊥)
                (λ u w. u x) (λ u w. w y) away-b away-c)
            | high_low x y ↦
                absurd (at_end place P (λ v. s.label b ≢ s.label v → s.label c ≢ s.label v → ⊥)
                (λ u w. w y) (λ u w. u x) away-b away-c)
          ]

      joined-alike : (b c : ℕ) → b < m → c < m → relabelled g s i b ≡ relabelled g s i c → s.shut b ≡ s.shut c
      joined-alike b c l t e = elim (relabel_cases g s i b c e) [
        | as_before same ↦ S.alike b c l t same
        | low_high x y ↦
            S.alike b low l low_below x ∙ two.low_open ∙ sym (S.alike c high t high-below y ∙ two.high_open)
        | high_low x y ↦
            S.alike b high l high-below x ∙ two.high_open ∙ sym (S.alike c low t low_below y ∙ two.low_open)
      ]

      -- ── whatever the free benches are to be ──

      module _ (f : ℕ → Bool) (free : Free m (joined g s i) f) where
        abbrev Reached : Type 0
        Reached =
            (place : ℕ → ℕ) × Puts g (suc i) place
            × ((b : ℕ) → b < m → f b ≡ true → held g (suc i) place b ≡ false)
            × (spent g (suc i) place ≤ s.base + paid g s i + sum m (λ b. on (f b) (more b)))

        alone_before : Free m s f
        alone_before =
            record {
              unshut = free.unshut;
              one_each = λ b c l t p q same. free.one_each b c l t p q (relabel_same g s i b c same);
            }

        -- The job is put on the end e, of whose class no bench is to be free.
        module _ (e : ℕ) (end : (e ≡ low) ⊎ (e ≡ high)) (is_open : s.shut e ≡ false) (is_below : e < m)
            (away : (b : ℕ) → b < m → f b ≡ true → s.label b ≢ s.label e) where
          on-it : s.extra e + cost g i e + sum m (λ b. on (f b) (s.extra b))
              ≤ paid g s i + sum m (λ b. on (f b) (more b)) → Reached
          on-it gap =
              put-on-end g m i s S heavy e is_below end f more (paid g s i)
              (end_out f e is_below away) (with_end f e is_open alone_before away) gap

          -- A bench of the other class is to be free, and costs as much more.
          by_other : (other r : ℕ) → Side e other → r < m → f r ≡ true → s.label r ≡ s.label other → Reached
          by_other other r side l p same =
              let rise : raised g s i r ≡ s.extra e + cost g i e - paid g s i =
              side.rises r (away r l p) ∙ rw (eq-eqb (s.label r) (s.label other) same) refl in
              on-it (omega (
                arith,
                side.price,
                raised_there m s.extra more f (s.extra e + cost g i e - paid g s i) r l p
                    (λ b t. omega arith) (omega (arith, rise)),
              ))

        none_of : (e : ℕ) → any m (λ b. f b && eqb (s.label b) (s.label e)) ≡ false
            → (b : ℕ) → b < m → f b ≡ true → s.label b ≢ s.label e
        none_of e none b l p same =
            clash (and_intro p (eq-eqb (s.label b) (s.label e) same))
            (any_none m (λ c. f c && eqb (s.label c) (s.label e)) none b l)

        joined-reached : Reached
        joined-reached = elim (split (any m (λ b. f b && eqb (s.label b) (s.label high)))) [
          | inl some ↦
              let (r, l, p) = any_elim m (λ b. f b && eqb (s.label b) (s.label high)) some in
              let chosen = and_left (f r) (eqb (s.label r) (s.label high)) p in
              let same = eqb-true (s.label r) (s.label high) (and_right (f r) (eqb (s.label r) (s.label high)) p) in
              let away : (b : ℕ) → b < m → f b ≡ true → s.label b ≢ s.label low = λ b t q e.
              let one : b ≡ r =
              free.one_each b r t l q chosen (relabel_joined g s i b r e same two.two_classes) in
              two.two_classes (sym e ∙ ap s.label one ∙ same) in
              by_other low (inl refl) two.low_open low_below away high r low-side l chosen same
          | inr no-high ↦ elim (split (any m (λ b. f b && eqb (s.label b) (s.label low)))) [
            | inl some ↦
                let (r, l, p) = any_elim m (λ b. f b && eqb (s.label b) (s.label low)) some in
                let chosen = and_left (f r) (eqb (s.label r) (s.label low)) p in
                let same = eqb-true (s.label r) (s.label low) (and_right (f r) (eqb (s.label r) (s.label low)) p) in
                by_other high (inr refl) two.high_open high-below (none_of high no-high)
                low r high-side l chosen same
            | inr no-low ↦
                let away : (b : ℕ) → b < m → f b ≡ true → s.label b ≢ s.label (taken g s i) = λ b t q e.
                elim taken-end [
                  | inl x ↦ none_of low no-low b t q (e ∙ ap s.label x)
                  | inr x ↦ none_of high no-high b t q (e ∙ ap s.label x)
                ] in
                on-it (taken g s i) taken-end taken-open taken-below away (omega (
                  arith,
                  taken-price,
                  sum-le m (λ b. on (f b) (s.extra b)) (λ b. on (f b) (more b))
                      (λ b t. on-le-on (f b) (s.extra b) (more b) (λ p. omega arith)),
                ))
          ]
        ]

      joined_small : (b : ℕ) → b < m → more b ≤ total g (suc i)
      joined_small b l = elim (split (s.shut b)) [
        | inl p ↦
            let not_low : s.label b ≢ s.label low = λ e. clash p (S.alike b low l low_below e ∙ two.low_open) in
            let not-high : s.label b ≢ s.label high =
            λ e. clash p (S.alike b high l high-below e ∙ two.high_open) in
            let same : raised g s i b ≡ 0 =
            raised-by-high g s i b not-high ∙ rw (ne_eqb (s.label b) (s.label low) not_low) refl in
            omega (arith, same, S.small b l, total-more)
        | inr p ↦
            omega (arith, small_numbers g m (suc i) (joined g s i) joined-no_less joined-reached b l p)
      ]

      pub joined-sound : Sound g m (suc i) (joined g s i)
      joined-sound =
          record {
            none_free = λ place P b l p.
                or_left (g.heavy i && eqb (place i) b) (S.none_free place (puts_before g i place P) b l p);
            one_free = joined-one_free;
            no_less = joined-no_less;
            reached = joined-reached;
            alike = joined-alike;
            small = joined_small;
          }

    pub placed-sound : Sound g m (suc i) (placed g s i)
    unfolding placed
    placed-sound = elim (split (closes g s i)) [
      | inl p ↦ rw p (closed-sound p)
      | inr p ↦ rw p (joined-sound p)
    ]
