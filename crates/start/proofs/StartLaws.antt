-- Laws of the numbers and lists that a day is put into (StartArrays).
--     member_at                      the place of a member
--     choices-are, lowest-is, highest-is, heavy_is, rock_is, pebble-is, weight_is     a job's numbers are those of the day
--     bound_is, small_is, limit_is   so are the limits
--     count_yes, count_no            one more index that is counted, or not
--     Gathered                       what the loop that gathers rocks keeps; how it starts, goes on and ends
use Prim.Native.Nat.{ℕ, zero, suc, ◌+◌, ◌-◌, ◌*◌, ◌^◌, ◌≤◌, ◌<◌}
use mathlib.Core.Path.{◌≡◌, refl, sym, ap, ap₂, subst, ◌∙◌}
use mathlib.Core.Bool.{Bool, true, false, not, ◌&&◌}
use mathlib.Core.Logic.{inl, inr, ⊎_elim}
use mathlib.Core.List.{List}
use native.Mathlib.Numerals.{add-one}
use native.Mathlib.Omega.{arith}
use lib.ListN.{get_or, set}
use lib.Dec.{eqb, leb, ltb}
use borrow.Author.Tests.{lt-ltb}
use Rattle.bools.proofs.BoolLaws.{split}
use Rattle.bools.proofs.OrderLaws.{lt-or-le, last_or_below}
use Rattle.sums.specs.Sum.{on, count}
use Rattle.sums.specs.Search.{least}
use Rattle.sums.specs.Members.{members}
use Rattle.sums.proofs.SearchLaws.{least-found, least-holds, least-before}
use Rattle.sums.proofs.CountLaws.{count_cong, count-split, count_none}
use Rattle.sums.proofs.MembersLaws.{member_early, member_last}
use Rattle.bits.specs.Bits.{is_set}
use Rattle.arrays.specs.Arrays.{plus_of, times_of, filled}
use Rattle.arrays.proofs.FilledLaws.{filled_none, filled_more}
use Rattle.sets.specs.Sets.{choices_of, lowest_of, highest_of}
use Rattle.start.specs.StartArrays.{heavy_of, rock_of, pebble_of, Bounded, Fields}
use Rattle.day.specs.Day.{Day, choices, heavy, pebble, bound}
use Rattle.algorithm.specs.Rocks.{rock, lowest, highest, weight, small, limit}
use Rattle.algorithm.specs.SoundDay.{SoundDay}
use Rattle.algorithm.proofs.RockLaws.{lowest-below, low_below_high, high_below, high_allowed, allowed_end}
use Rattle.arrays.proofs.NumberLaws.{times_exact}

-- ── members ──

pub member_at : (n : ℕ) (f : ℕ → Bool) (j d : ℕ) → j < n → f j ≡ true → get_or (members n f) (count j f) d ≡ j
member_at zero f j d h p = absurd (omega arith)
member_at (suc n) f j d h p = elim (last_or_below {i = j} {n = n} h) [
  | inl e ↦ subst (λ (k : ℕ). get_or (members (suc n) f) (count k f) d ≡ k) (sym e) (member_last n f d (subst (λ (k : ℕ). f k ≡ true) e p))
  | inr l ↦ member_early n f (count j f) d (count-below n f j l p) ∙ member_at n f j d l p
]
  where
    count-below : (m : ℕ) (g : ℕ → Bool) (i : ℕ) → i < m → g i ≡ true → count i g < count m g
    count-below zero g i l q = absurd (omega arith)
    count-below (suc m) g i l q = elim (last_or_below {i = i} {n = m} l) [
      | inl e ↦ let here : on (g m) 1 ≡ 1 = rw (subst (λ (k : ℕ). g k ≡ true) e q) in rw e (omega arith)
      | inr b ↦ omega (arith, count-below m g i b q)
    ]

-- ── only the first benches ──

count-first : (m n : ℕ) (f g : ℕ → Bool) → m ≤ n → ((i : ℕ) → i < m → f i ≡ g i) → ((i : ℕ) → m ≤ i → i < n → f i ≡ false) → count n f ≡ count m g
count-first m n f g h same none =
    let e : n ≡ m + (n - m) = omega arith in
    ap (λ (k : ℕ). count k f) e ∙ count-split m (n - m) f
    ∙ omega (arith, count_cong m f g same, count_none (n - m) (λ i. f (m + i)) (λ i l. none (m + i) (omega arith) (omega arith)))

least_first : (m n : ℕ) (f g : ℕ → Bool) → m ≤ n → ((i : ℕ) → i < m → f i ≡ g i) → least m g < m → least n f ≡ least m g
least_first m n f g h same some =
    least-found n f (least m g) (omega arith) (same (least m g) some ∙ least-holds m g some)
    (λ i l. same i (omega arith) ∙ least-before m g i l)

-- ── a day's jobs ──

module _ (d : Day) (jobs : ℕ) (minutes allowed : List ℕ) (F : Fields d jobs minutes allowed) (j : ℕ) (h : j < d.jobs) where
  abbrev a : ℕ
  a = get_or allowed j 0

  same_bench : (v : ℕ) → v < d.benches → is_set 64 a v ≡ d.allows j v
  same_bench v l = sym (F.allows j v h ∙ ap (λ (k : Bool). k && is_set 64 a v) (lt-ltb v d.benches l))

  pub choices-are : choices_of a ≡ choices d j
  unfolding choices_of
  choices-are = count-first d.benches 64 (is_set 64 a) (d.allows j) F.bounded.few_benches same_bench (λ v l m. F.none_above j v h l m)

  pub lowest-is : SoundDay d → lowest_of a ≡ lowest d j
  unfolding lowest_of lowest
  lowest-is sound = least_first d.benches 64 (is_set 64 a) (d.allows j) F.bounded.few_benches same_bench (lowest-below d sound j h)

  -- No bench behind the second.
  none_behind : rock d j ≡ true → (v : ℕ) → highest d j < v → v < 64 → is_set 64 a v ≡ false
  none_behind r v l m = elim (lt-or-le v d.benches) [
    | inl b ↦ elim (split (is_set 64 a v)) [
      | inl p ↦ absurd (⊎_elim (λ e. omega (arith, low_below_high d j r)) (λ e. omega arith) (allowed_end d j r v b (sym (same_bench v b) ∙ p)))
      | inr p ↦ p
    ]
    | inr b ↦ F.none_above j v h b m
  ]

  pub highest-is : rock d j ≡ true → highest_of a ≡ highest d j
  unfolding highest_of
  highest-is r =
      let g = highest d j in
      let below = high_below d j r in
      let few = F.bounded.few_benches in
      let back : 63 - (63 - g) ≡ g = omega arith in
      let at : least 64 (λ i. is_set 64 a (63 - i)) ≡ 63 - g =
      least-found 64 (λ i. is_set 64 a (63 - i)) (63 - g) (omega arith)
      (subst (λ (k : ℕ). is_set 64 a k ≡ true) (sym back) (same_bench g below ∙ high_allowed d j r))
      (λ i l. none_behind r (63 - i) (omega arith) (omega arith)) in
      ap (λ (k : ℕ). 63 - k) at ∙ back

  abbrev small_minutes : d.minutes j < 2 ^ 20
  small_minutes = F.bounded.minutes_small j h

  pub heavy-is : heavy_of d.p d.q d.target (get_or minutes j 0) ≡ heavy d j
  heavy-is =
      let B = F.bounded in
      let left : times_of d.p d.target ≡ d.p * d.target = times_exact d.p d.target (omega (arith, B.p_small)) (omega (arith, B.target_small)) in
      let right : times_of d.q (get_or minutes j 0) ≡ d.q * d.minutes j =
      ap (times_of d.q) (F.minutes_are j h) ∙ times_exact d.q (d.minutes j) (omega (arith, B.q_small)) (omega (arith, small_minutes)) in
      ap₂ ltb left right

  pub rock-is : rock_of d.p d.q d.target (get_or minutes j 0) a ≡ rock d j
  rock-is = ap₂ (λ (x : Bool) (k : ℕ). x && eqb k 2) heavy-is choices-are

  pub pebble-is : pebble_of d.p d.q d.target (get_or minutes j 0) a ≡ pebble d j
  pebble-is = ap₂ (λ (x : Bool) (k : ℕ). not x && leb 2 k) heavy-is choices-are

  pub weight_is : times_of (times_of 3 d.q) (get_or minutes j 0) ≡ weight d j
  weight_is =
      let B = F.bounded in
      let three : times_of 3 d.q ≡ 3 * d.q = times_exact 3 d.q (omega arith) (omega (arith, B.q_small)) in
      ap₂ times_of three (F.minutes_are j h)
      ∙ times_exact (3 * d.q) (d.minutes j) (omega (arith, B.q_small)) (omega (arith, small_minutes))

module _ (d : Day) (B : Bounded d) where
  five : times_of 5 d.q ≡ 5 * d.q
  five = times_exact 5 d.q (omega arith) (omega (arith, B.q_small))

  two : (k : ℕ) → k < 128 → times_of 2 k ≡ 2 * k
  two k h = times_exact 2 k (omega arith) (omega arith)

  plus-small : (a b : ℕ) → a + b < 2 ^ 20 → plus_of a b ≡ a + b
  plus-small a b h = omega arith

  pub bound_is : times_of (plus_of (times_of 5 d.q) d.p) d.target ≡ bound d
  bound_is =
      let q = B.q_small in
      let p = B.p_small in
      let t = B.target_small in
      ap (λ (k : ℕ). times_of k d.target) (ap (λ (k : ℕ). plus_of k d.p) five ∙ plus-small (5 * d.q) d.p (omega arith))
      ∙ times_exact (5 * d.q + d.p) d.target (omega arith) (omega arith)

  pub small_is : times_of (plus_of (times_of 2 d.q) d.p) d.target ≡ small d
  small_is =
      let q = B.q_small in
      let p = B.p_small in
      let t = B.target_small in
      ap (λ (k : ℕ). times_of k d.target) (ap (λ (k : ℕ). plus_of k d.p) (two d.q q) ∙ plus-small (2 * d.q) d.p (omega arith))
      ∙ times_exact (2 * d.q + d.p) d.target (omega arith) (omega arith)

  pub limit_is : times_of (times_of 5 d.q - times_of 2 d.p) d.target ≡ limit d
  limit_is =
      let q = B.q_small in
      let p = B.p_small in
      let t = B.target_small in
      ap (λ (k : ℕ). times_of k d.target) (ap₂ (λ (k l : ℕ). k - l) five (two d.p p))
      ∙ times_exact (5 * d.q - 2 * d.p) d.target (omega arith) (omega arith)

-- ── loops ──

count_yes : (f : ℕ → Bool) (r : ℕ) {k l : ℕ} → k ≡ count r f → f r ≡ true → l ≡ k + 1 → l ≡ count (r + 1) f
count_yes f r e p s = let here : on (f r) 1 ≡ 1 = rw p in rw add-one (omega arith)

count_no : (f : ℕ → Bool) (r : ℕ) {k l : ℕ} → k ≡ count r f → f r ≡ false → l ≡ k → l ≡ count (r + 1) f
count_no f r e p s = let here : on (f r) 1 ≡ 0 = rw p in rw add-one (omega arith)

-- ── gathering ──

abbrev pub marks : List Bool → ℕ → Bool
marks marked j = get_or marked j false

filled_next {ℓ} : {A : Type ℓ} (f : ℕ → A) (k : ℕ) (xs : List A) {l : ℕ} {ys zs : List A} {a : A} → l ≡ k + 1
    → ys ≡ filled k f xs → a ≡ f k → zs ≡ set ys k a → zs ≡ filled l f xs
filled_next f k xs more e p q = filled_more f k xs e p q ∙ ap (λ (m : ℕ). filled m f xs) (sym more)

-- The jobs below j were gathered.
pub record Gathered (jobs : ℕ) (marked : List Bool) (allowed job₀ low₀ high₀ : List ℕ) (j k : ℕ) (job low high : List ℕ) : Type 0 where
  pub so_many : k ≡ count j (marks marked)
  pub jobs_in : job ≡ filled k (λ r. get_or (members jobs (marks marked)) r 0) job₀
  pub lows_in : low ≡ filled k (λ r. lowest_of (get_or allowed (get_or (members jobs (marks marked)) r 0) 0)) low₀
  pub highs_in : high ≡ filled k (λ r. highest_of (get_or allowed (get_or (members jobs (marks marked)) r 0) 0)) high₀

module _ (jobs : ℕ) (marked : List Bool) (allowed job₀ low₀ high₀ : List ℕ) where
  pub gathered_starts : Gathered jobs marked allowed job₀ low₀ high₀ 0 0 job₀ low₀ high₀
  gathered_starts =
      record {
        so_many = refl;
        jobs_in = filled_none (λ r. get_or (members jobs (marks marked)) r 0) job₀;
        lows_in = filled_none (λ r. lowest_of (get_or allowed (get_or (members jobs (marks marked)) r 0) 0)) low₀;
        highs_in = filled_none (λ r. highest_of (get_or allowed (get_or (members jobs (marks marked)) r 0) 0)) high₀;
      }

  module _ {j k : ℕ} {job low high : List ℕ} (G : Gathered jobs marked allowed job₀ low₀ high₀ j k job low high) where
    -- Job j is marked, and becomes rock k.
    pub gathered_more : {l : ℕ} {job' low' high' : List ℕ} → j < jobs → marks marked j ≡ true → l ≡ k + 1
        → job' ≡ set job k j → low' ≡ set low k (lowest_of (get_or allowed j 0))
        → high' ≡ set high k (highest_of (get_or allowed j 0))
        → Gathered jobs marked allowed job₀ low₀ high₀ (j + 1) l job' low' high'
    gathered_more h p next ej el eh =
        let place : j ≡ get_or (members jobs (marks marked)) k 0 =
        sym (ap (λ (i : ℕ). get_or (members jobs (marks marked)) i 0) G.so_many ∙ member_at jobs (marks marked) j 0 h p) in
        record {
          so_many = count_yes (marks marked) j G.so_many p next;
          jobs_in = filled_next (λ r. get_or (members jobs (marks marked)) r 0) k job₀ next G.jobs_in place ej;
          lows_in = filled_next (λ r. lowest_of (get_or allowed (get_or (members jobs (marks marked)) r 0) 0)) k low₀ next
              G.lows_in (ap (λ (i : ℕ). lowest_of (get_or allowed i 0)) place) el;
          highs_in = filled_next (λ r. highest_of (get_or allowed (get_or (members jobs (marks marked)) r 0) 0)) k high₀ next
              G.highs_in (ap (λ (i : ℕ). highest_of (get_or allowed i 0)) place) eh;
        }

    pub gathered_past : {l : ℕ} {job' low' high' : List ℕ} → marks marked j ≡ false → l ≡ k → job' ≡ job → low' ≡ low
        → high' ≡ high → Gathered jobs marked allowed job₀ low₀ high₀ (j + 1) l job' low' high'
    gathered_past p still ej el eh =
        record {
          so_many = count_no (marks marked) j G.so_many p still;
          jobs_in = ej ∙ G.jobs_in ∙ ap (λ (m : ℕ). filled m (λ r. get_or (members jobs (marks marked)) r 0) job₀) (sym still);
          lows_in = el ∙ G.lows_in
              ∙ ap (λ (m : ℕ). filled m (λ r. lowest_of (get_or allowed (get_or (members jobs (marks marked)) r 0) 0)) low₀) (sym still);
          highs_in = eh ∙ G.highs_in
              ∙ ap (λ (m : ℕ). filled m (λ r. highest_of (get_or allowed (get_or (members jobs (marks marked)) r 0) 0)) high₀) (sym still);
        }

    pub gathered-all : j ≤ jobs → jobs ≤ j → k ≡ count jobs (marks marked)
    gathered-all a b = let same : j ≡ jobs = omega arith in G.so_many ∙ ap (λ (i : ℕ). count i (marks marked)) same
