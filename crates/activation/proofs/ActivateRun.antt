-- The arrays follow the activation of benches.
--     lowest-active     the bench that the search finds is that of the definition
--     Activating        what the loop keeps; how it goes on, and how it ends
use Prim.Native.Nat.{ℕ, zero, suc, ◌+◌, ◌≤◌, ◌<◌}
use mathlib.Core.Path.{◌≡◌, refl, sym, ap, ap₂, subst, ◌∙◌}
use mathlib.Core.Bool.{Bool, true, false, not, ◌&&◌, ◌||◌}
use mathlib.Core.Logic.{◌≢◌}
use mathlib.Core.List.{List}
use native.Mathlib.Omega.{arith}
use lib.ListN.{set}
use lib.Dec.{ltb}
use borrow.Author.Tests.{lt-ltb, le-ltb}
use Rattle.bools.proofs.BoolLaws.{and-false_right}
use Rattle.bools.proofs.OrderLaws.{lt_of_ne}
use Rattle.sums.specs.Search.{any, least}
use Rattle.sums.proofs.SearchLaws.{any_cong, least_cong, least-le}
use Rattle.rocks.specs.declared.rocks.Limits.{Limits}
use Rattle.algorithm.specs.Board.{Board, Directions, touches, other, towards}
use Rattle.algorithm.specs.Explore.{activates, within, father, child, critical, rule2, activate}
use Rattle.rocks.specs.RockArrays.{lowest_end}
use Rattle.rocks.specs.BoardArrays.{rocks_of, rock_at, Rocks, Directed, Owned, Rounds}
use Rattle.activation.specs.ActivationArrays.{activates_at}
use Rattle.rocks.proofs.ScanLaws.{and_assoc, board_lowest}
use Rattle.sums.proofs.SearchLaws.{any-and, any-or}
use Rattle.conflict.proofs.ConflictRun.{rounds-set, other-within, father-same, child-same}
use Rattle.rocks.proofs.BoardLaws.{within_same}

-- ── the loop of the definition, turn by turn ──

activate-stops : (k : ℕ) (b : Board) (i : ℕ) (dirs : Directions) (xs ys : List ℕ) → least b.benches (activates b dirs xs ys) ≡ b.benches
    → activate k b i dirs xs ys ≡ ys
unfolding activate
activate-stops zero b i dirs xs ys e = refl
activate-stops (suc k) b i dirs xs ys e =
    let p : ltb (least b.benches (activates b dirs xs ys)) b.benches ≡ false =
    le-ltb (least b.benches (activates b dirs xs ys)) b.benches (omega arith) in
    rw (p, activate)

activate-goes : (k : ℕ) (b : Board) (i : ℕ) (dirs : Directions) (xs ys : List ℕ) → ltb (least b.benches (activates b dirs xs ys)) b.benches ≡ true
    → activate (suc k) b i dirs xs ys ≡ activate k b i dirs xs (set ys (least b.benches (activates b dirs xs ys)) i)
unfolding activate
activate-goes k b i dirs xs ys p = rw (p, activate)

activate-turns : (k k' : ℕ) (b : Board) (i : ℕ) (dirs : Directions) (xs ys : List ℕ) (v : ℕ) → k ≡ suc k'
    → v ≡ least b.benches (activates b dirs xs ys) → v < b.benches
    → activate k b i dirs xs ys ≡ activate k' b i dirs xs (set ys v i)
activate-turns k k' b i dirs xs ys v turn e h =
    ap (λ (m : ℕ). activate m b i dirs xs ys) turn
    ∙ subst (λ (u : ℕ). activate (suc k') b i dirs xs ys ≡ activate k' b i dirs xs (set ys u i)) (sym e)
    (activate-goes k' b i dirs xs ys (lt-ltb (least b.benches (activates b dirs xs ys)) b.benches (subst (λ (u : ℕ). u < b.benches) e h)))

-- ── the tests, reordered ──

turned : (s a q : Bool) → (s && (a && q)) ≡ ((q && a) && s)
turned true true true = refl
turned true true false = refl
turned true false true = refl
turned true false false = refl
turned false true true = refl
turned false true false = refl
turned false false true = refl
turned false false false = refl

-- t touches, w and l are the two sets, f and c leave and come, x exceeds, s is light, a is active.
order : (t w l f c g x s a : Bool)
    → (t && (w && (l && (((f && g) && x) || (s && (a && ((f && g) || (c && g))))))))
    ≡ (w && (l && ((((t && f) && g) && x) || (((((t && f) && g) || ((t && c) && g)) && a) && s))))
order true w l f c g x s a = ap (λ (k : Bool). w && (l && (((f && g) && x) || k))) (turned s a ((f && g) || (c && g)))
order false w l f c g x s a = sym (and-false_right w (and-false_right l refl))

module _ (b : Board) (n : Limits) (low high weight own : List ℕ) (R : Rocks b n low high weight) (O : Owned b own) (dirs : Directions) (dir : List ℕ)
    (D : Directed b dirs dir) (xs joined : List ℕ) (X : Rounds b xs joined) where
  module _ (ys level : List ℕ) (Y : Rounds b ys level) where
    abbrev leaves : ℕ → ℕ → Bool
    leaves j v = towards dirs j (other b j v) && within b xs (other b j v)

    abbrev comes : ℕ → ℕ → Bool
    comes j v = towards dirs j v && within b xs (other b j v)

    abbrev active : ℕ → ℕ → Bool
    active j v =
        within b xs v
        && (not (within b ys v)
        && ((leaves j v && ltb b.bound (b.own v + b.weight j))
        || (ltb (b.weight j) b.small && (within b ys (other b j v) && (leaves j v || comes j v)))))

    active-same : (r v : ℕ) → r < rocks_of b → v < b.benches → touches b (rock_at b r) v ≡ true
        → activates_at n low high weight own dir joined level r v ≡ active (rock_at b r) v
    active-same r v h l t =
        let f = father-same b n low high weight R dirs dir D xs joined X r v h t in
        let c = child-same b n low high weight R dirs dir D xs joined X r v h l t in
        ap₂ (λ (p q : Bool). p && q) (within_same b n low high weight R xs joined X v l)
        (ap₂ (λ (p q : Bool). p && q) (ap not (within_same b n low high weight R ys level Y v l))
        (ap₂ (λ (p q : Bool). p || q)
        (ap₂ (λ (p q : Bool). p && q) f (ap₂ ltb R.bound (ap₂ (λ (p q : ℕ). p + q) (O.entries v l) (R.weights r h))))
        (ap₂ (λ (p q : Bool). p && q) (ap₂ ltb (R.weights r h) R.small)
        (ap₂ (λ (p q : Bool). p && q) (other-within b n low high weight R dirs dir D ys level Y r v h t) (ap₂ (λ (p q : Bool). p || q) f c)))))

    abbrev first_rule : ℕ → ℕ → Bool
    first_rule v j = father b dirs (within b xs) v j && ltb b.bound (b.own v + b.weight j)

    abbrev second_rule : ℕ → ℕ → Bool
    second_rule v j = (father b dirs (within b xs) v j || child b dirs (within b xs) v j) && within b ys (other b j v) && ltb (b.weight j) b.small

    any-active : (v : ℕ) → any b.jobs (λ j. touches b j v && active j v) ≡ activates b dirs xs ys v
    any-active v =
        any_cong b.jobs (λ j. touches b j v && active j v) (λ j. within b xs v && (not (within b ys v) && (first_rule v j || second_rule v j)))
        (λ j h. order (touches b j v) (within b xs v) (not (within b ys v)) (towards dirs j (other b j v)) (towards dirs j v) (within b xs (other b j v))
        (ltb b.bound (b.own v + b.weight j)) (ltb (b.weight j) b.small) (within b ys (other b j v)))
        ∙ any-and b.jobs (within b xs v) (λ j. not (within b ys v) && (first_rule v j || second_rule v j))
        ∙ ap (λ (k : Bool). within b xs v && k)
        (any-and b.jobs (not (within b ys v)) (λ j. first_rule v j || second_rule v j)
        ∙ ap (λ (k : Bool). not (within b ys v) && k) (any-or b.jobs (first_rule v) (second_rule v)))
        ∙ sym (and_assoc (within b xs v) (not (within b ys v)) (critical b dirs xs v || rule2 b dirs xs ys v))

    pub lowest-active : lowest_end n.benches n.rocks low high (activates_at n low high weight own dir joined level)
        ≡ least b.benches (activates b dirs xs ys)
    lowest-active =
        board_lowest b n low high weight R (activates_at n low high weight own dir joined level) active active-same
        ∙ least_cong b.benches (λ v. any b.jobs (λ j. touches b j v && active j v)) (activates b dirs xs ys) (λ v l. any-active v)

  -- ── activation ──

  pub record Activating (i : ℕ) (ys : List ℕ) (k : ℕ) (level : List ℕ) : Type 0 where
    pub now_ys : List ℕ
    pub rounds : Rounds b now_ys level
    pub same : activate b.benches b i dirs xs ys ≡ activate k b i dirs xs now_ys

  pub activating_spent : {i : ℕ} {ys : List ℕ} {k : ℕ} {level : List ℕ} → Activating i ys k level → k ≤ 0
      → Rounds b (activate b.benches b i dirs xs ys) level
  unfolding activate
  activating_spent {i} {ys} {k} {level} A none =
      let e : k ≡ 0 = omega arith in
      subst (λ (y : List ℕ). Rounds b y level) (sym (A.same ∙ ap (λ (m : ℕ). activate m b i dirs xs A.now_ys) e)) A.rounds

  module _ {i : ℕ} {ys : List ℕ} {k : ℕ} {level : List ℕ} (A : Activating i ys k level) (v : ℕ)
      (e : v ≡ lowest_end n.benches n.rocks low high (activates_at n low high weight own dir joined level)) where
    activating_at : v ≡ least b.benches (activates b dirs xs A.now_ys)
    activating_at = e ∙ lowest-active A.now_ys level A.rounds

    pub activating_ends : v ≡ n.benches → Rounds b (activate b.benches b i dirs xs ys) level
    activating_ends stop =
        subst (λ (y : List ℕ). Rounds b y level) (sym (A.same ∙ activate-stops k b i dirs xs A.now_ys (sym activating_at ∙ stop ∙ R.benches))) A.rounds

    pub activating_goes_on : (k' : ℕ) {level' : List ℕ} → v ≢ n.benches → k ≡ suc k' → level' ≡ set level v i → Activating i ys k' level'
    activating_goes_on k' {level'} ne turn q =
        let below : v < b.benches =
        lt_of_ne v b.benches (subst (λ (m : ℕ). m ≤ b.benches) (sym activating_at) (least-le b.benches (activates b dirs xs A.now_ys))) (λ s. ne (s ∙ sym R.benches)) in
        record {
          now_ys = set A.now_ys v i;
          rounds = subst (λ (y : List ℕ). Rounds b (set A.now_ys v i) y) (sym q) (rounds-set b A.now_ys level v i A.rounds);
          same = A.same ∙ activate-turns k k' b i dirs xs A.now_ys v turn activating_at below;
        }
