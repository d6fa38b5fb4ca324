-- An exploration as a sequence of rounds.
--     Rounds b k x y          rounds from round k on lead from x to y, where no bench opens another round
--     Ended b P y             y is the state before a round that no bench opens, and P holds there
--     rounds-induction        what each round keeps holds at the end
--     unexplored-joined, unexplored-between       at the start no bench has a round, and round 0 may open
--     round_activates         a round that a Type A bench opens activates one bench more
--     explore-rounds          an exploration is such a sequence: it has turns enough, since each round activates a bench
--     Later b k x y           y keeps the directions of x, and the rounds and levels below k
--     rounds-later            what later rounds keep
use Prim.Native.Nat.{ℕ, zero, suc, ◌+◌, ◌≤◌, ◌<◌}
use mathlib.Core.Path.{◌≡◌, refl, sym, subst, ◌∙◌}
use mathlib.Core.Logic.{inr, ⊎_elim}
use mathlib.Core.Bool.{true, false, not}
use native.Mathlib.Omega.{arith}
use lib.ListN.{replicate, length-replicate, get_or-replicate}
use borrow.Author.Tests.{lt-ltb, le-ltb, ltb-true}
use Rattle.bools.proofs.BoolLaws.{split, not_intro_true, and_left}
use Rattle.sums.specs.Sum.{count}
use Rattle.sums.specs.Search.{any}
use Rattle.sums.proofs.SearchLaws.{any_elim, any_none}
use Rattle.sums.proofs.CountLaws.{count-strict, count-not, count-pos}
use Rattle.algorithm.specs.Board.{Board, touches, other, towards}
use Rattle.algorithm.specs.Explore.{Explored, never, round_of, activated, type_a, open_round, rounds, unexplored, explore}
use Rattle.algorithm.specs.Properties.{SoundBoard}
use Rattle.algorithm.proofs.GrowthLaws.{Grows, grows_join, grows_refl}
use Rattle.algorithm.proofs.BoardLaws.{pointed_start, other-below, touches-below}
use Rattle.algorithm.proofs.ForcedInterface.{ForcedLaws}
use Rattle.algorithm.proofs.Keeping.{marks_old}
use Rattle.algorithm.proofs.RoundLaws.{Between, Round, type_a-inactive, type_a-level, activating_marks, round_steps, round_keeps}
use Rattle.algorithm.proofs.RoundLaws.{round_marks_joined, round_marks_level, round_between}
use Rattle.sums.proofs.TableLaws.{length-table}

pub data Rounds (b : Board) : ℕ → Explored → Explored → Type 0 where
  no_round : {k : ℕ} {x : Explored} → ((v : ℕ) → v < b.benches → type_a b k x v ≡ false) → Rounds b k x x
  one_round : {k : ℕ} {x z y : Explored} → k < b.benches → Round b k x z → Rounds b (suc k) z y → Rounds b k x y

-- What the last state is: the one before round K, which no bench opens.
pub record Ended (b : Board) (P : ℕ → Explored → Type 0) (y : Explored) : Type 0 where
  pub rounds_done : ℕ
  pub between : Between b rounds_done y
  pub none_opens : (v : ℕ) → v < b.benches → type_a b rounds_done y v ≡ false
  pub kept : P rounds_done y

pub record Later (b : Board) (k : ℕ) (x y : Explored) : Type 0 where
  pub directions : Grows x.dir y.dir
  pub joined_same : (v : ℕ) → v < b.benches → round_of b x.joined v ≤ b.benches → round_of b y.joined v ≡ round_of b x.joined v
  pub level_same : (v : ℕ) → v < b.benches → round_of b x.level v ≤ b.benches → round_of b y.level v ≡ round_of b x.level v

module _ (b : Board) (ok : SoundBoard b) (laws : ForcedLaws b) where
  pub rounds-induction : (P : ℕ → Explored → Type 0) (y : Explored)
      → ((k : ℕ) (x z : Explored) → k < b.benches → Between b k x → Round b k x z → Between b (suc k) z → Rounds b (suc k) z y → P k x → P (suc k) z)
      → {k : ℕ} {x : Explored} → Rounds b k x y → Between b k x → P k x → Ended b P y
  rounds-induction P y step (no_round {k} none) between p = record { rounds_done = k; between = between; none_opens = none; kept = p }
  rounds-induction P y step (one_round {k} {x} {z} h round rest) between p =
      let next = round_between b ok laws k x between z round h in
      rounds-induction P y step rest next (step k x z h between round next rest p)

  round_later : (k : ℕ) (x z : Explored) → Between b k x → Round b k x z → Later b k x z
  round_later k x z between round =
      record {
        directions = round_keeps b ok laws k x between z round;
        joined_same = marks_old (round_marks_joined b ok laws k x between z round);
        level_same = marks_old (round_marks_level b ok laws k x between z round);
      }

  later_trans : (k : ℕ) (x z y : Explored) → Later b k x z → Later b (suc k) z y → Later b k x y
  later_trans k x z y f g =
      record {
        directions = grows_join f.directions g.directions;
        joined_same = λ v h l. let e = f.joined_same v h l in g.joined_same v h (omega arith) ∙ e;
        level_same = λ v h l. let e = f.level_same v h l in g.level_same v h (omega arith) ∙ e;
      }

  pub rounds-later : {k : ℕ} {x y : Explored} → Rounds b k x y → Between b k x → Later b k x y
  rounds-later (no_round none) between = record { directions = grows_refl; joined_same = λ v h l. refl; level_same = λ v h l. refl }
  rounds-later {y} (one_round {k} {x} {z} h round rest) between =
      later_trans k x z y (round_later k x z between round) (rounds-later rest (round_between b ok laws k x between z round h))

  -- ── the start ──

  pub unexplored-joined : (v : ℕ) → v < b.benches → round_of b (unexplored b).joined v ≡ never b
  unexplored-joined v h = get_or-replicate b.benches v (never b) (never b) h

  pub unexplored-between : Between b 0 (unexplored b)
  unexplored-between =
      let called = laws.call (replicate b.jobs 0) (pointed_start b) in
      record {
        in_time = omega arith;
        pointed = called.0;
        stable = called.2;
        joined_length = length-replicate b.benches (never b);
        level_length = length-replicate b.benches (never b);
        joined_before = record { before = λ v h. inr (unexplored-joined v h) };
        level_before = record { before = λ v h. inr (unexplored-joined v h) };
        directed = λ e v h t f. absurd (omega (arith, unexplored-joined v (touches-below b ok e v h t)));
        tail_joined = λ e v h a f.
            absurd (omega (arith, unexplored-joined (other b e v) (other-below b ok e v h (and_left (touches b e v) (towards (unexplored b).dir e (other b e v)) a))));
      }

  -- ── turns enough ──

  -- Before a round that a Type A bench opens, not all benches are activated; after it one more is.
  pub round_activates : (k : ℕ) (x z : Explored) → Between b k x → Round b k x z → (u : ℕ) → u < b.benches → type_a b k x u ≡ true
      → (count b.benches (activated b x) < b.benches) × (count b.benches (activated b x) < count b.benches (activated b z))
  round_activates k x z between round u h t =
      let out = type_a-inactive b k x between u h t in
      let opened = type_a-level b k x u h t in
      let same = marks_old (activating_marks round.activation (length-table b.benches _)) u h (omega (arith, between.in_time)) in (
        omega (
          arith,
          count-not b.benches (activated b x),
          count-pos b.benches (λ v. not (activated b x v)) u h (not_intro_true (le-ltb (round_of b x.level u) (never b) out)),
        ),
        count-strict b.benches (activated b x) (activated b z) u
            (λ v hv p.
            let old = ltb-true (round_of b x.level v) (never b) p in
            let kept = marks_old (round_marks_level b ok laws k x between z round) v hv (omega arith) in
            lt-ltb (round_of b z.level v) (never b) (omega arith))
            h
            (le-ltb (round_of b x.level u) (never b) out)
            (lt-ltb (round_of b z.level u) (never b) (omega (arith, between.in_time))),
      )

  rounds-stop : (f k : ℕ) (x : Explored) → any b.benches (type_a b k x) ≡ false → rounds (suc f) b k x ≡ x
  unfolding rounds
  rounds-stop f k x p = rw (p, rounds)

  rounds-turn : (f k : ℕ) (x : Explored) → any b.benches (type_a b k x) ≡ true → rounds (suc f) b k x ≡ rounds f b (suc k) (open_round b k x)
  unfolding rounds
  rounds-turn f k x p = rw (p, rounds)

  rounds-rounds : (f k : ℕ) (x : Explored) → Between b k x → k ≤ count b.benches (activated b x) → b.benches < f + k → Rounds b k x (rounds f b k x)
  rounds-rounds zero k x between enough turns = absurd (omega (arith, between.in_time))
  rounds-rounds (suc f) k x between enough turns =
      ⊎_elim
      (λ p.
      let (u, hu, t) = any_elim b.benches (type_a b k x) p in
      let z = open_round b k x in
      let round = round_steps b ok laws k x between in
      let more = round_activates k x z between round u hu t in
      let h : k < b.benches = omega arith in
      subst (Rounds b k x) (sym (rounds-turn f k x p))
      (one_round h round (rounds-rounds f (suc k) z (round_between b ok laws k x between z round h) (omega arith) (omega arith))))
      (λ p. subst (Rounds b k x) (sym (rounds-stop f k x p)) (no_round (any_none b.benches (type_a b k x) p)))
      (split (any b.benches (type_a b k x)))

  pub explore-rounds : Rounds b 0 (unexplored b) (explore b)
  unfolding explore
  explore-rounds = rounds-rounds (suc b.benches) 0 (unexplored b) unexplored-between (omega arith) (omega arith)
