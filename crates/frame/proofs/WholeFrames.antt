-- A whole frame is read by its own bytes: what stands behind it changes nothing, and reading goes on right behind it.
-- Of a whole frame f with the bytes rest behind it:
--     version_of-append, kind_of-append, length_of-append, body_of-append  its fields and body are those of f
--     frame_size-append       its size is the length of f
--     some_append, cut-append it is not empty, and the sheet does not end inside it
--     drop-append             what is left behind it is rest
--     faults_at-append        its tests are those of f
--     read_from-past_foreign  a foreign frame: reading goes on with rest
--     read_from-past_sound    a frame of version 1 without a fault: reading goes on with rest and what it holds
--     read_from-in_frame      a frame of version 1 with a fault: that fault is what is read
--     read_on-past_foreign, read_on-past_sound, read_on-in_frame  the same, with a bound that is just enough
-- Of the frame at the start of a list of bytes:
--     whole_take              bytes that do not end inside a frame begin with a whole frame
--     whole_unique            a list begins with at most one whole frame
--     frames_induction        induction along the frames: no bytes left, bytes that end inside a frame, a whole frame and the bytes behind it
-- Of the whole sheet:
--     verdict_cases           a verdict accepts, or refuses for a fault
--     read_on-cut             the sheet ends inside the frame
--     read_sheet-within       a sheet that is not too long is read from its first byte on
use Prim.Native.Nat.{ℕ, suc, ◌+◌, ◌≤◌, ◌<◌}
use mathlib.Core.Path.{◌≡◌, refl, sym, ap, ◌∙◌, subst}
use mathlib.Core.Bool.{true, false}
use mathlib.Core.Logic.{◌≢◌, ◌⊎◌, inl, inr}
use mathlib.Core.List.{List, [], ◌∷◌, ◌++◌}
use native.Mathlib.Omega.{arith}
use lib.ListN.{length, take, drop, length-append, length-drop, take-append-drop}
use lib.Seq.{take-append-le, drop-append-le, take_at, drop_at, length-take-le}
use lib.Dec.{eqb, ltb, lit<}
use borrow.Author.Tests.{eq-eqb, ne_eqb, eqb-true, le-ltb, ltb-false}
use Rattle.bools.proofs.BoolLaws.{split, or-false, or-false_left, tests}
use Rattle.bools.proofs.OrderLaws.{measure_induction}
use Rattle.bits.proofs.LayoutLaws.{field-append, field-take}
use Rattle.fields.specs.declared.fault.Fault.{Fault}
use Rattle.fields.specs.declared.fault.Fault.TheVariants.{Truncated}
use Rattle.std.specs.Prelude.{Ok, Err}
use Rattle.fields.specs.Format.{ours, header_layout, header_size, version_of, kind_of, length_of, frame_size, body_of}
use Rattle.fields.specs.Tests.{Verdict, first_fault}
use Rattle.judging.specs.FrameTests.{cut}
use Rattle.frame.specs.Reading.{Progress, refused, nothing_read, faults_at, after, read_from, read_sheet}
use Rattle.frame.specs.Frames.{WholeFrame, read_on}
use Rattle.frame.proofs.ReadLaws.{cut-false, frame_size-pos, read_from-enough, read_from-cut, read_from-foreign, read_from-fault, read_from-next}

-- ── the fields of a whole frame ──

module _ (f rest : List ℕ) (w : WholeFrame f) where
  pub version_of-append : version_of (f ++ rest) ≡ version_of f
  version_of-append = field-append header_layout f rest 0 (omega (arith, w.header)) (lit< tt)

  pub kind_of-append : kind_of (f ++ rest) ≡ kind_of f
  kind_of-append = field-append header_layout f rest 1 (omega (arith, w.header)) (lit< tt)

  pub length_of-append : length_of (f ++ rest) ≡ length_of f
  length_of-append = field-append header_layout f rest 2 (omega (arith, w.header)) (lit< tt)

  pub frame_size-append : frame_size (f ++ rest) ≡ length f
  frame_size-append = ap (λ (n : ℕ). header_size + n) length_of-append ∙ w.size

  pub some_append : eqb (length (f ++ rest)) 0 ≡ false
  some_append = ne_eqb (length (f ++ rest)) 0 (λ e. omega (arith, w.header, length-append f rest))

  pub cut-append : cut (f ++ rest) ≡ false
  cut-append =
      or-false
      (le-ltb (length (f ++ rest)) header_size (omega (arith, w.header, length-append f rest)))
      (le-ltb (length (f ++ rest)) (frame_size (f ++ rest)) (omega (arith, frame_size-append, length-append f rest)))

  pub drop-append : drop (frame_size (f ++ rest)) (f ++ rest) ≡ rest
  drop-append = drop_at f rest (frame_size (f ++ rest)) (sym frame_size-append)

  pub body_of-append : body_of (f ++ rest) ≡ body_of f
  body_of-append =
      ap (λ (n : ℕ). take n (drop header_size (f ++ rest))) length_of-append
      ∙ ap (take (length_of f)) (drop-append-le header_size f rest w.header)
      ∙ take-append-le (length_of f) (drop header_size f) rest (omega (arith, w.size, length-drop header_size f))

  pub faults_at-append : (g : Progress) (at : ℕ) → faults_at g at (f ++ rest) ≡ faults_at g at f
  faults_at-append g at = cc (kind_of-append, body_of-append)

  -- ── reading on from a whole frame ──

  module _ (k at : ℕ) (g : Progress) where
    pub read_from-past_foreign : version_of f ≢ ours → read_from (suc k) (f ++ rest) at g ≡ read_from k rest (at + length f) g
    read_from-past_foreign v =
        read_from-foreign k (f ++ rest) at g some_append cut-append (rw version_of-append (ne_eqb (version_of f) ours v))
        ∙ cc (drop-append, frame_size-append)

    module _ (v : version_of f ≡ ours) where
      ours-append : eqb (version_of (f ++ rest)) ours ≡ true
      ours-append = eq-eqb (version_of (f ++ rest)) ours (version_of-append ∙ v)

      pub read_from-past_sound : first_fault (faults_at g at f) ≡ Ok tt
          → read_from (suc k) (f ++ rest) at g ≡ read_from k rest (at + length f) (after g (kind_of f) (body_of f))
      read_from-past_sound e =
          read_from-next k (f ++ rest) at g some_append cut-append ours-append (ap first_fault (faults_at-append g at) ∙ e)
          ∙ cc (drop-append, frame_size-append, kind_of-append, body_of-append)

      pub read_from-in_frame : (x : Fault) → first_fault (faults_at g at f) ≡ Err x → read_from (suc k) (f ++ rest) at g ≡ refused x
      read_from-in_frame x e =
          read_from-fault k (f ++ rest) at g some_append cut-append x ours-append (ap first_fault (faults_at-append g at) ∙ e)

-- A bound that is one more than the bytes left is enough, and one less is enough for the bytes behind a frame.
module _ (f rest : List ℕ) (w : WholeFrame f) (at : ℕ) (g : Progress) where
  one_more : read_on (f ++ rest) at g ≡ read_from (suc (length (f ++ rest))) (f ++ rest) at g
  one_more = read_from-enough (length (f ++ rest)) (suc (length (f ++ rest))) (f ++ rest) at g (omega arith) (omega arith)

  behind : (g : Progress) → read_from (length (f ++ rest)) rest (at + length f) g ≡ read_on rest (at + length f) g
  behind g = read_from-enough (length (f ++ rest)) (length rest) rest (at + length f) g (omega (arith, length-append f rest)) (omega arith)

  pub read_on-past_foreign : version_of f ≢ ours → read_on (f ++ rest) at g ≡ read_on rest (at + length f) g
  read_on-past_foreign v = one_more ∙ read_from-past_foreign f rest w (length (f ++ rest)) at g v ∙ behind g

  module _ (v : version_of f ≡ ours) where
    pub read_on-past_sound : first_fault (faults_at g at f) ≡ Ok tt
        → read_on (f ++ rest) at g ≡ read_on rest (at + length f) (after g (kind_of f) (body_of f))
    read_on-past_sound e =
        one_more ∙ read_from-past_sound f rest w (length (f ++ rest)) at g v e ∙ behind (after g (kind_of f) (body_of f))

    pub read_on-in_frame : (x : Fault) → first_fault (faults_at g at f) ≡ Err x → read_on (f ++ rest) at g ≡ refused x
    read_on-in_frame x e = one_more ∙ read_from-in_frame f rest w (length (f ++ rest)) at g v x e

-- ── the frame at the start of a list of bytes ──

pub whole_take : (s : List ℕ) → cut s ≡ false → WholeFrame (take (frame_size s) s)
whole_take s c =
    let h : header_size ≤ length s = ltb-false (length s) header_size (or-false_left (ltb (length s) header_size) _ c) in
    let l : length (take (frame_size s) s) ≡ frame_size s = length-take-le (frame_size s) s (cut-false s c) in
    let n : length_of (take (frame_size s) s) ≡ length_of s = field-take header_layout s 2 (frame_size s) (omega arith) (lit< tt) in
    record { header = omega arith; size = omega arith }

pub whole_unique : (a b c d : List ℕ) → WholeFrame a → WholeFrame c → a ++ b ≡ c ++ d → (a ≡ c) × (b ≡ d)
whole_unique a b c d u w e =
    let l : length c ≡ length a = sym (frame_size-append c d w) ∙ ap frame_size (sym e) ∙ frame_size-append a b u in
    let p : a ≡ c = sym (take_at a b (length a) refl) ∙ ap (take (length a)) e ∙ take_at c d (length a) l in
    let q : b ≡ d = sym (drop_at a b (length a) refl) ∙ ap (drop (length a)) e ∙ drop_at c d (length a) l in
    (p, q)

nil-of-length : (s : List ℕ) → length s ≡ 0 → s ≡ []
nil-of-length [] e = refl
nil-of-length (x ∷ s) e = absurd (omega arith)

pub frames_induction : (P : List ℕ → Type 0) → P [] → ((s : List ℕ) → 0 < length s → cut s ≡ true → P s)
    → ((f rest : List ℕ) → WholeFrame f → P rest → P (f ++ rest)) → (s : List ℕ) → P s
frames_induction P over inside frame = measure_induction length P step
  where
    step : (s : List ℕ) → ((r : List ℕ) → length r < length s → P r) → P s
    step s ih = elim (split (eqb (length s) 0)) [
      | inl e ↦ rw (nil-of-length s (eqb-true (length s) 0 e)) over
      | inr n ↦ elim (split (cut s)) [
        | inl c ↦ inside s (omega tests) c
        | inr c ↦ subst P (take-append-drop (frame_size s) s)
            (frame (take (frame_size s) s) (drop (frame_size s) s) (whole_take s c)
            (ih (drop (frame_size s) s) (rw length-drop (omega (tests, frame_size-pos s, cut-false s c)))))
      ]
    ]

-- ── the whole sheet ──

pub verdict_cases : (v : Verdict) → (v ≡ Ok tt) ⊎ ((f : Fault) × (v ≡ Err f))
verdict_cases (Ok _) = inl refl
verdict_cases (Err f) = inr (f, refl)

pub read_on-cut : (rest : List ℕ) (at : ℕ) (g : Progress) → 0 < length rest → cut rest ≡ true → read_on rest at g ≡ refused (Truncated at)
read_on-cut rest at g h c =
    read_from-enough (length rest) (suc (length rest)) rest at g (omega arith) (omega arith)
    ∙ read_from-cut (length rest) rest at g (ne_eqb (length rest) 0 (λ e. omega arith)) c

pub read_sheet-within : (s : List ℕ) → length s ≤ 65536 → read_sheet s ≡ read_on s 0 nothing_read
unfolding read_sheet
read_sheet-within s h = rw (le-ltb 65536 (length s) h, read_sheet)
