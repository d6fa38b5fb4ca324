-- Laws of calls of FORCED ORIENTATIONS.
--     ForcedCall b dir last, forced_call      a call directs forced rocks only, and ends in a stable state
--     overloaded_keeps                an overloaded bench has no neutral rock in a stable state, so its rock load stays, whatever is directed
--                                     afterwards
--     FakeCall b dir v j last, fake_call      a rock directed away from v in a stable state, then a call: all that is directed is one chain,
--                                     benches within the bound stay so, and the others keep their rock load
--     AtTurn b dir v, turn_keeps      what holds of every bench between two turns of the outer loop, when all rocks were neutral at first
--     first_call_overloads            a bench that the first call overloads has a cause: its own load, or that and one rock (Lemma 4.4.1)
use Prim.Native.Nat.{ℕ, ◌≤◌, ◌<◌}
use mathlib.Core.Path.{◌≡◌, ◌∙◌}
use mathlib.Core.Logic.{◌⊎◌, inl, inr, ⊎_elim}
use mathlib.Core.Bool.{true, false}
use native.Mathlib.Omega.{arith}
use lib.ListN.{replicate}
use Rattle.bools.proofs.OrderLaws.{lt-or-le}
use Rattle.sums.proofs.CountLaws.{count-le}
use Rattle.algorithm.specs.Board.{Board, Directions, touches, neutral, rock_load, load}
use Rattle.algorithm.specs.Forced.{direct, forcing, forced_orientations}
use Rattle.algorithm.specs.Properties.{SoundBoard, Pointed, ForcedSteps, no_step, Stable, Chain, begins, OneEach}
use Rattle.algorithm.proofs.BoardLaws.{pointed_start, pointed-direct, rock_load-none}
use Rattle.algorithm.proofs.GrowthLaws.{Grows, grows-neutral, grows-rock_load, gain_received, gain_none, gain_one, Cause, grows_cause}
use Rattle.algorithm.proofs.StepLaws.{unforced, forcing-none, steps_join, steps_pointed, chain_grows, steps_chain}
use Rattle.algorithm.proofs.TurnLaws.{Turn, Turns, no_turn, a_turn, outer-turns, outer-stable}

-- ── any call ──

pub record ForcedCall (b : Board) (dir last : Directions) : Type 0 where
  pub pointed : Pointed b last
  pub steps : ForcedSteps b dir last
  pub stable : Stable b last

turns_steps : (b : Board) {dir last : Directions} → Turns b dir last → ForcedSteps b dir last
turns_steps b no_turn = no_step
turns_steps b (a_turn turn rest) = steps_join b turn.steps (turns_steps b rest)

module _ (b : Board) (ok : SoundBoard b) where
  call_turns : (dir : Directions) → Pointed b dir → Turns b dir (forced_orientations b dir)
  call_turns dir pointed = outer-turns b ok b.jobs dir pointed (count-le b.jobs (neutral dir))

  pub forced_call : (dir : Directions) → Pointed b dir → ForcedCall b dir (forced_orientations b dir)
  forced_call dir pointed =
      let steps = turns_steps b (call_turns dir pointed) in
      record {
        pointed = steps_pointed b ok steps pointed;
        steps = steps;
        stable = outer-stable b ok b.jobs dir pointed (count-le b.jobs (neutral dir));
      }

-- ── overloaded benches in a stable state ──

module _ (b : Board) (dir : Directions) (stable : Stable b dir) (v : ℕ) (hv : v < b.benches) (over : b.bound < load b dir v) where
  pub overloaded_keeps : {last : Directions} → Grows dir last → rock_load b last v ≡ rock_load b dir v
  overloaded_keeps g = gain_none b g v (λ e r. omega (arith, unforced b dir v (stable v hv) e r.0 r.1 r.2))

-- ── a call after a fake orientation ──

pub record FakeCall (b : Board) (dir : Directions) (v j : ℕ) (last : Directions) : Type 0 where
  pub pointed : Pointed b last
  pub steps : ForcedSteps b (direct b dir v j) last
  pub stable : Stable b last
  pub grows : Grows dir last
  pub chain : Chain b dir last
  pub within : (u : ℕ) → u < b.benches → load b dir u ≤ b.bound → load b last u ≤ b.bound
  pub kept : (u : ℕ) → u < b.benches → b.bound < load b dir u → rock_load b last u ≡ rock_load b dir u

module _ (b : Board) (ok : SoundBoard b) (one_each : OneEach b) where
  -- All that the call directs is one chain, so a bench receives at most one rock. That rock was neutral in the stable state, where the bench did not
  -- force it: with it the bench is within the bound.
  chain_within : {dir last : Directions} → Pointed b dir → Stable b dir → Chain b dir last → (u : ℕ) → u < b.benches
      → load b dir u ≤ b.bound → load b last u ≤ b.bound
  chain_within {dir} {last} pointed stable c u hu fits =
      let g = chain_grows b c in
      elim (lt-or-le (rock_load b dir u) (rock_load b last u)) [
        | inl more ↦
            let (e, r) = gain_received b g u more in
            omega (arith, gain_one b g u e r (λ f q. one_each dir last pointed c u f e hu q r), unforced b dir u (stable u hu) e r.0 r.1 r.2)
        | inr l ↦ omega arith
      ]

  pub fake_call : (dir : Directions) → Pointed b dir → Stable b dir → (v j : ℕ) → v < b.benches → j < b.jobs → touches b j v ≡ true
      → neutral dir j ≡ true → FakeCall b dir v j (forced_orientations b (direct b dir v j))
  fake_call dir pointed stable v j hv hj t n =
      let call = forced_call b ok (direct b dir v j) (pointed-direct b ok dir pointed v j hj t) in
      let c = steps_chain b stable (begins v j hv hj t n) call.steps in
      record {
        pointed = call.pointed;
        steps = call.steps;
        stable = call.stable;
        grows = chain_grows b c;
        chain = c;
        within = chain_within pointed stable c;
        kept = λ u hu over. overloaded_keeps b dir stable u hu over (chain_grows b c);
      }

-- ── the first call ──

pub record AtTurn (b : Board) (dir : Directions) (v : ℕ) : Type 0 where
  pub rests : (rock_load b dir v ≡ 0) ⊎ (forcing b dir v ≡ false)
  pub cause : b.bound < load b dir v → Cause b dir v

module _ (b : Board) (ok : SoundBoard b) (one_each : OneEach b) where
  -- A turn is a chain, so a bench receives at most one rock in it, and then forces nothing at its end. If the bench had no rock load before, that rock
  -- is all of its rock load; if it had some it forced nothing, so it is within the bound with that rock too. A bench that receives none changes nothing.
  pub turn_keeps : {dir last : Directions} → Pointed b dir → Turn b dir last → (v : ℕ) → v < b.benches → AtTurn b dir v → AtTurn b last v
  turn_keeps {dir} {last} pointed turn v hv before =
      let g = chain_grows b turn.chain in
      elim (lt-or-le (rock_load b dir v) (rock_load b last v)) [
        | inl more ↦
            let (e, r) = gain_received b g v more in
            let gain = gain_one b g v e r (λ f q. one_each dir last pointed turn.chain v f e hv q r) in
            record {
              rests = inr (turn.receivers_rest v e hv r);
              cause = λ over. ⊎_elim (λ none. inr (e, r.0, r.1, r.3, omega arith))
                  (λ quiet. absurd (omega (arith, unforced b dir v quiet e r.0 r.1 r.2))) before.rests;
            }
        | inr l ↦
            let same : rock_load b last v ≡ rock_load b dir v = omega (arith, grows-rock_load b g v) in
            record {
              rests = ⊎_elim (λ none. inl (same ∙ none))
                  (λ quiet. inr (forcing-none b last v (λ j h t n. rw same (unforced b dir v quiet j h t (grows-neutral g j n))))) before.rests;
              cause = λ over. grows_cause b g v (before.cause (rw same at over));
            }
      ]

  turns_keep : {dir last : Directions} → Pointed b dir → Turns b dir last → (v : ℕ) → v < b.benches → AtTurn b dir v → AtTurn b last v
  turns_keep pointed no_turn v hv before = before
  turns_keep pointed (a_turn turn rest) v hv before =
      turns_keep (steps_pointed b ok turn.steps pointed) rest v hv (turn_keeps pointed turn v hv before)

  pub first_call_overloads : (v : ℕ) → v < b.benches → b.bound < load b (forced_orientations b (replicate b.jobs 0)) v
      → Cause b (forced_orientations b (replicate b.jobs 0)) v
  first_call_overloads v hv over =
      let none = rock_load-none b v in
      let start = pointed_start b in
      let at-start : AtTurn b (replicate b.jobs 0) v = record { rests = inl none; cause = λ more. inl (omega arith) } in
      (turns_keep start (call_turns b ok (replicate b.jobs 0) start) v hv at-start).cause over
