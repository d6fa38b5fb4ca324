-- The frame at the front of the bytes that are left, from the program's tests to its answer (`frame_at`).
--     Header                  the header that was read is that of the frame
--     at_short                the bytes end inside the frame
--     at_foreign, at-ours     a whole frame of another version; one of version 1, judged by its kind
use Prim.Native.Nat.{ℕ, ◌+◌, ◌-◌, ◌≤◌, ◌<◌}
use mathlib.Core.Path.{◌≡◌, sym, ap₂, ◌∙◌}
use mathlib.Core.Bool.{Bool, true, false}
use mathlib.Core.List.{List}
use native.Mathlib.Omega.{arith}
use lib.ListN.{length, take, drop}
use lib.Dec.{ltb}
use borrow.Author.Tests.{lt-ltb, le-ltb, eq-eqb, ne_eqb}
use Rattle.bools.proofs.BoolLaws.{or_right, or-false}
use Rattle.std.specs.Prelude.{Result, Ok, Err}
use Rattle.fields.specs.declared.fault.Fault.{Fault}
use Rattle.fields.specs.declared.fault.Fault.TheVariants.{Truncated}
use Rattle.judging.specs.declared.judge.Stage.{Stage}
use Rattle.judging.specs.declared.judge.Frame.{Frame}
use Rattle.judging.specs.declared.judge.Frame.TheVariants as frame
use Rattle.fields.specs.Format.{ours, version_of, kind_of, length_of, frame_size}
use Rattle.judging.specs.FrameTests.{cut}
use Rattle.judging.specs.Steps.{frame_of, frame_at}

pub record Header (rest : List ℕ) (version kind size : ℕ) : Type 0 where
  pub version_is : version ≡ version_of rest
  pub kind_is : kind ≡ kind_of rest
  pub size_is : size ≡ length_of rest

module _ (stage : Stage) (m n : ℕ) (had : ℕ → Bool) (at : ℕ) (rest : List ℕ) where
  at_cut : cut rest ≡ true → Err (Truncated at) ≡ frame_at stage m n had at rest
  unfolding frame_at
  at_cut c = rw c

  module _ (version kind size : ℕ) (h : Header rest version kind size) where
    pub at_short : length rest < 3 + size → Err (Truncated at) ≡ frame_at stage m n had at rest
    at_short l =
        at_cut (or_right (ltb (length rest) 3) (lt-ltb (length rest) (frame_size rest) (omega (arith, h.size_is))))

    module _ (fits : 3 + size ≤ length rest) where
      at_whole : cut rest ≡ false
      at_whole =
          or-false (le-ltb (length rest) 3 (omega arith)) (le-ltb (length rest) (frame_size rest) (omega (arith, h.size_is)))

      pub at_foreign : (version ≡ 1 → ⊥) → Ok frame.Foreign ≡ frame_at stage m n had at rest
      unfolding frame_at
      at_foreign v = rw (at_whole, ne_eqb (version_of rest) ours (λ e. v (h.version_is ∙ e)))

      pub at-ours : version ≡ 1 → (x : Result Frame Fault) → x ≡ frame_of stage m n had at kind (take (3 + size - 3) (drop 3 rest))
          → x ≡ frame_at stage m n had at rest
      unfolding frame_at
      at-ours v x e =
          let whole-size : 3 + size - 3 ≡ length_of rest = omega (arith, h.size_is) in
          rw (at_whole, eq-eqb (version_of rest) ours (sym h.version_is ∙ v))
          (e ∙ ap₂ (λ (k z : ℕ). frame_of stage m n had at k (take z (drop 3 rest))) h.kind_is whole-size)
