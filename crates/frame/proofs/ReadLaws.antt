-- How reading goes on from a frame: one law for each case, and that the bound on the frames left does not matter.
--     read_from-over      nothing is left
--     read_from-cut       the sheet ends inside the frame
--     read_from-foreign   a whole frame of another version
--     read_from-fault     a frame of version 1 with a fault
--     read_from-next      a sound frame of version 1
--     frame_size-pos, cut-false     a frame is not empty; a whole frame is within what is left
--     read_from-enough    any two bounds that are at least the bytes left give the same
use Prim.Native.Nat.{ℕ, zero, suc, ◌+◌, ◌≤◌}
use mathlib.Core.Path.{◌≡◌, refl, sym, ◌∙◌}
use mathlib.Core.Bool.{Bool, true, false}
use mathlib.Core.List.{List}
use native.Mathlib.Omega.{arith}
use lib.ListN.{length, drop, length-drop}
use lib.Dec.{eqb, ltb}
use borrow.Author.Tests.{eq-eqb, eqb-true, ltb-false}
use Rattle.bools.proofs.BoolLaws.{or-false_right}
use Rattle.fields.specs.declared.fault.Fault.{Fault}
use Rattle.fields.specs.declared.fault.Fault.TheVariants.{Truncated}
use Rattle.std.specs.Prelude.{Ok, Err}
use Rattle.fields.specs.Format.{ours, header_size, version_of, kind_of, frame_size, body_of}
use Rattle.fields.specs.Tests.{Verdict, first_fault}
use Rattle.judging.specs.FrameTests.{cut}
use Rattle.frame.specs.Reading.{Progress, refused, faults_at, after, ending, read_from}

pub frame_size-pos : (rest : List ℕ) → 3 ≤ frame_size rest
frame_size-pos rest = omega arith

pub cut-false : (rest : List ℕ) → cut rest ≡ false → frame_size rest ≤ length rest
cut-false rest e = ltb-false (length rest) (frame_size rest) (or-false_right (ltb (length rest) header_size) _ e)

module _ (k : ℕ) (rest : List ℕ) (at : ℕ) (g : Progress) where
  pub read_from-over : length rest ≡ 0 → read_from k rest at g ≡ ending g at
  unfolding read_from
  read_from-over e = go k
    where
      go : (k : ℕ) → read_from k rest at g ≡ ending g at
      go zero = refl
      go (suc k) = rw (eq-eqb (length rest) 0 e, read_from)

  module _ (some : eqb (length rest) 0 ≡ false) where
    pub read_from-cut : cut rest ≡ true → read_from (suc k) rest at g ≡ refused (Truncated at)
    unfolding read_from
    read_from-cut c = rw (some, c, read_from)

    module _ (whole : cut rest ≡ false) where
      pub read_from-foreign : eqb (version_of rest) ours ≡ false
          → read_from (suc k) rest at g ≡ read_from k (drop (frame_size rest) rest) (at + frame_size rest) g
      unfolding read_from
      read_from-foreign v = rw (some, whole, v, read_from)

      pub read_from-fault : (f : Fault) → eqb (version_of rest) ours ≡ true → first_fault (faults_at g at rest) ≡ Err f
          → read_from (suc k) rest at g ≡ refused f
      unfolding read_from
      read_from-fault f v e = rw (some, whole, v, e, read_from)

      pub read_from-next : eqb (version_of rest) ours ≡ true → first_fault (faults_at g at rest) ≡ Ok tt
          → read_from (suc k) rest at g ≡ read_from k (drop (frame_size rest) rest) (at + frame_size rest) (after g (kind_of rest) (body_of rest))
      unfolding read_from
      read_from-next v e = rw (some, whole, v, e, read_from)

-- Each frame takes three bytes or more, so the bound falls more slowly than the bytes left.
left : (rest : List ℕ) → cut rest ≡ false → (k : ℕ) → length rest ≤ suc k → length (drop (frame_size rest) rest) ≤ k
left rest whole k h = rw length-drop (omega (arith, frame_size-pos rest, cut-false rest whole))

-- Two readings of the same frame agree if they agree on what follows a whole frame.
module _ (j k : ℕ) (rest : List ℕ) (at : ℕ) (g : Progress)
    (again : (g : Progress) → cut rest ≡ false
    → read_from j (drop (frame_size rest) rest) (at + frame_size rest) g ≡ read_from k (drop (frame_size rest) rest) (at + frame_size rest) g) where
  same_verdict : eqb (length rest) 0 ≡ false → cut rest ≡ false → eqb (version_of rest) ours ≡ true
      → (r : Verdict) → first_fault (faults_at g at rest) ≡ r → read_from (suc j) rest at g ≡ read_from (suc k) rest at g
  same_verdict some whole v (Err f) e =
      read_from-fault j rest at g some whole f v e ∙ sym (read_from-fault k rest at g some whole f v e)
  same_verdict some whole v (Ok _) e =
      read_from-next j rest at g some whole v e ∙ again _ whole ∙ sym (read_from-next k rest at g some whole v e)

  same_version : eqb (length rest) 0 ≡ false → cut rest ≡ false
      → (b : Bool) → eqb (version_of rest) ours ≡ b → read_from (suc j) rest at g ≡ read_from (suc k) rest at g
  same_version some whole false v =
      read_from-foreign j rest at g some whole v ∙ again g whole ∙ sym (read_from-foreign k rest at g some whole v)
  same_version some whole true v = same_verdict some whole v (first_fault (faults_at g at rest)) refl

  same-cut : eqb (length rest) 0 ≡ false → (b : Bool) → cut rest ≡ b → read_from (suc j) rest at g ≡ read_from (suc k) rest at g
  same-cut some true c = read_from-cut j rest at g some c ∙ sym (read_from-cut k rest at g some c)
  same-cut some false c = same_version some c (eqb (version_of rest) ours) refl

  same_frame : (b : Bool) → eqb (length rest) 0 ≡ b → read_from (suc j) rest at g ≡ read_from (suc k) rest at g
  same_frame true e =
      let z : length rest ≡ 0 = eqb-true (length rest) 0 e in
      read_from-over (suc j) rest at g z ∙ sym (read_from-over (suc k) rest at g z)
  same_frame false e = same-cut e (cut rest) refl

pub read_from-enough : (j k : ℕ) (rest : List ℕ) (at : ℕ) (g : Progress) → length rest ≤ j → length rest ≤ k
    → read_from j rest at g ≡ read_from k rest at g
read_from-enough zero k rest at g hj hk =
    let e : length rest ≡ 0 = omega arith in
    read_from-over zero rest at g e ∙ sym (read_from-over k rest at g e)
read_from-enough (suc j) zero rest at g hj hk =
    let e : length rest ≡ 0 = omega arith in
    read_from-over (suc j) rest at g e ∙ sym (read_from-over zero rest at g e)
read_from-enough (suc j) (suc k) rest at g hj hk =
    same_frame j k rest at g
    (λ g' whole. read_from-enough j k (drop (frame_size rest) rest) (at + frame_size rest) g' (left rest whole j hj) (left rest whole k hk))
    (eqb (length rest) 0)
    refl
