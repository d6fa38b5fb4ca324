-- "Frames are judged in sheet order; numbers 2 to 11 are tried in this order at each frame." (document 01, "Faults, in
-- checking order"); behind 6 a booking has 14 and 15 (request S-1).
-- Of the tests at a frame:
--     first_test, first_test_holds    first_fault gives the fault of the first test that holds, and back
--     none_holds, none_holds_passes   it gives none where no test holds, and back
--     faults_at-numbers       the tests at a frame have the numbers 3 to 6, then by its kind 7 and 8, 9 to 11, or 14 and 15
--     minutes_read            minutes that are read fit their field: the test 10 holds of no frame
--     InFrame at f, in_frame_number   a fault found by them has one of these numbers but 10, and the frame's first byte
--                             for its place
-- Of 12, passed on: lowest_hyper_edge, hyper_edge_lowest, none_hyper_edge, hyper_edge_none (fields HyperEdgeLaws)
-- Of the places that reading comes to:
--     reached-length          the bytes before the place and those left are all of the sheet
--     reached_read            the sheet is read as what is left is read from there on
--     reached_unique          one byte is reached in one way only: with the same bytes left and the same progress
-- Of the first fault:
--     fault_here_number       a fault found after fault 1 has a number from 2 to 15 other than 10 and 13
--     fault_here_read         what is read from a place at which a fault is found is that fault
--     sheet_fault_unique      a sheet has at most one first fault
-- Of what a sheet is read as:
--     read-judged, judged-read        read_sheet gives what the judgement of the sheet is, and back
--     judgement_unique                a sheet has only one judgement
--     read_too_long, too_long_read    fault 1 is given where the sheet is too long, and only there
--     read_fault, fault_read          a fault is given where it is the first one, and back
--     read_accepted, accepted_read    a sheet is accepted where it has none of the faults, and back
--     never_10                no list of bytes is refused by fault 10 (request S-3)
use Prim.Native.Nat.{ℕ, suc, ◌+◌, ◌^◌, ◌≤◌, ◌<◌}
use mathlib.Core.Path.{◌≡◌, refl, sym, ap, ◌∙◌, subst}
use mathlib.Core.Bool.{Bool, true, false, cond}
use mathlib.Core.Logic.{◌≢◌, ◌⊎◌, inl, inr}
use mathlib.Core.List.{List, [], ◌∷◌, ◌++◌, map}
use native.Mathlib.Omega.{arith}
use lib.ListN.{length, length-append}
use lib.Dec.{eqb}
use borrow.Author.Tests.{lt-ltb, lt-leb}
use Rattle.bools.proofs.BoolLaws.{split, clash}
use Rattle.bools.proofs.OrderLaws.{lt-or-le, eq-or-ne, last_or_below}
use Rattle.bits.proofs.BitsLaws.{bits-lt}
use Rattle.fields.specs.Contents.{Contents}
use Rattle.judging.specs.declared.judge.Stage.{Stage}
use Rattle.judging.specs.declared.judge.Stage.TheVariants.{Start, Open, Closed}
use Rattle.fields.specs.declared.fault.Fault.{Fault}
use Rattle.fields.specs.declared.fault.Fault.TheVariants.{TooLong, Truncated}
use Rattle.fields.specs.Tests.{Verdict}
use Rattle.std.specs.Prelude.{Ok, Err}
use Rattle.fields.specs.Numbers.{number_of, place_of}
use Rattle.fields.specs.Format.{ours, head_kind, job_kind, booking_kind, version_of, kind_of, body_of}
use Rattle.fields.specs.Format.{head_of, job_of, booking_of}
use Rattle.fields.specs.Tests.{Test, first_fault, head_faults, booking_faults, job_faults, minutes_fault, hyper_edge_verdict}
pub use Rattle.fields.proofs.HyperEdgeLaws.{lowest_hyper_edge, hyper_edge_lowest, none_hyper_edge, hyper_edge_none}
use Rattle.judging.specs.FrameTests.{frame_faults}
use Rattle.frame.specs.Reading.{Progress, Read, accepted, refused, nothing_read, faults_at, after, judged, end_verdict, ending, read_from, read_sheet}
use Rattle.frame.specs.Frames.{WholeFrame, NoneHolds, FirstTest, read_on, Reached, start, past_foreign, past_sound, FaultHere, ends_inside, in_frame, no_end, heavy_hyper_edge, SheetFault, SheetSound, Judgement, too_long, faulty, sound}
use Rattle.frame.proofs.WholeFrames.{verdict_cases, whole_unique, frames_induction, read_on-past_foreign, read_on-past_sound, read_on-in_frame, read_on-cut, read_sheet-within}

-- ── the tests at a frame ──

pub first_test : (ts : List Test) (f : Fault) → first_fault ts ≡ Err f → FirstTest ts f
first_test [] f e = let z : ◌≡◌ {A = ℕ} 0 1 = cc in absurd (omega arith)
first_test (t ∷ ts) f e = elim (split t.holds) [
  | inl p ↦ record { before = []; test = t; later = ts; order = refl; none_before = tt; holds_here = p; fault_here = cc }
  | inr p ↦
      let r = first_test ts f (rw p at e) in
      record {
        before = t ∷ r.before;
        test = r.test;
        later = r.later;
        order = ap (λ (us : List Test). t ∷ us) r.order;
        none_before = (p, r.none_before);
        holds_here = r.holds_here;
        fault_here = r.fault_here;
      }
]

holds_behind : (before : List Test) (t : Test) (later : List Test) → NoneHolds before → t.holds ≡ true
    → first_fault (before ++ t ∷ later) ≡ Err t.fault
holds_behind [] t later n h = rw h
holds_behind (b ∷ before) t later n h = rw n.0 (holds_behind before t later n.1 h)

pub first_test_holds : {ts : List Test} {f : Fault} → FirstTest ts f → first_fault ts ≡ Err f
first_test_holds r =
    ap first_fault r.order ∙ holds_behind r.before r.test r.later r.none_before r.holds_here ∙ ap Err r.fault_here

pub none_holds : (ts : List Test) → first_fault ts ≡ Ok tt → NoneHolds ts
none_holds [] e = tt
none_holds (t ∷ ts) e = elim (split t.holds) [
  | inl p ↦ let z : ◌≡◌ {A = ℕ} 0 1 = cc in absurd (omega arith)
  | inr p ↦ (p, none_holds ts (rw p at e))
]

pub none_holds_passes : (ts : List Test) → NoneHolds ts → first_fault ts ≡ Ok tt
none_holds_passes [] n = refl
none_holds_passes (t ∷ ts) n = rw n.0 (none_holds_passes ts n.1)

-- The tests of what a frame holds, by three tests of its kind: it is a head, a job, a booking.
abbrev content_tests : Progress → Bool → Bool → Bool → List ℕ → ℕ → List Test
content_tests g head job booking body at =
    cond head (head_faults (head_of body) at)
    (cond job (job_faults g.contents.head.benches (length g.contents.jobs) (job_of body) at)
    (cond booking (booking_faults g.contents.head.benches g.had (booking_of body) at) []))

content_numbers : (g : Progress) (a b c : Bool) (body : List ℕ) (at : ℕ)
    → map (λ (t : Test). number_of t.fault) (content_tests g a b c body at)
    ≡ cond a (7 ∷ 8 ∷ []) (cond b (9 ∷ 10 ∷ 11 ∷ []) (cond c (14 ∷ 15 ∷ []) []))
content_numbers g true b c body at = refl
content_numbers g false true c body at = refl
content_numbers g false false true body at = refl
content_numbers g false false false body at = refl

pub faults_at-numbers : (g : Progress) (at : ℕ) (frame : List ℕ)
    → map (λ (t : Test). number_of t.fault) (faults_at g at frame)
    ≡ 3 ∷ 4 ∷ 5 ∷ 6
    ∷ cond (eqb (kind_of frame) head_kind) (7 ∷ 8 ∷ [])
    (cond (eqb (kind_of frame) job_kind) (9 ∷ 10 ∷ 11 ∷ []) (cond (eqb (kind_of frame) booking_kind) (14 ∷ 15 ∷ []) []))
unfolding frame_faults
faults_at-numbers g at frame =
    ap (λ (ns : List ℕ). 3 ∷ 4 ∷ 5 ∷ 6 ∷ ns)
    (content_numbers g (eqb (kind_of frame) head_kind) (eqb (kind_of frame) job_kind) (eqb (kind_of frame) booking_kind)
    (body_of frame) at)

-- What holds of the fault of every test that may hold is so of the fault that is found.
abbrev Every : (Fault → Type 0) → List Test → Type 0
Every P [] = Unit {0}
Every P (t ∷ ts) = (t.holds ≡ true → P t.fault) × Every P ts

every_found : (P : Fault → Type 0) (ts : List Test) (f : Fault) → Every P ts → first_fault ts ≡ Err f → P f
every_found P [] f a e = let z : ◌≡◌ {A = ℕ} 0 1 = cc in absurd (omega arith)
every_found P (t ∷ ts) f a e = elim (split t.holds) [
  | inl p ↦ let q : t.fault ≡ f = cc in subst P q (a.0 p)
  | inr p ↦ every_found P ts f a.1 (rw p at e)
]

-- A field that was read fits its width.
minutes_read : (body : List ℕ) → minutes_fault (job_of body) ≡ false
minutes_read body = lt-leb (2 ^ 20) (job_of body).minutes (bits-lt body 0 20)

-- A fault of a frame at byte at: neither 1, 2 nor 10, 12, 13.
pub record InFrame (at : ℕ) (f : Fault) : Type 0 where
  pub from_3 : 3 ≤ number_of f
  pub to_15 : number_of f ≤ 15
  pub not_10 : number_of f ≡ 10 → ⊥
  pub not_12 : number_of f ≡ 12 → ⊥
  pub not_13 : number_of f ≡ 13 → ⊥
  pub place_is : place_of f ≡ at

content_in_frame : (g : Progress) (a b c : Bool) (body : List ℕ) (at : ℕ)
    → Every (InFrame at) (content_tests g a b c body at)
content_in_frame g true b c body at = (λ h. omega arith, (λ h. omega arith, tt))
content_in_frame g false true c body at =
    (λ h. omega arith, (λ h. clash h (minutes_read body), (λ h. omega arith, tt)))
content_in_frame g false false true body at = (λ h. omega arith, (λ h. omega arith, tt))
content_in_frame g false false false body at = tt

faults_at-in_frame : (g : Progress) (at : ℕ) (frame : List ℕ) → Every (InFrame at) (faults_at g at frame)
unfolding frame_faults
faults_at-in_frame g at frame =
    let content =
    content_in_frame g (eqb (kind_of frame) head_kind) (eqb (kind_of frame) job_kind) (eqb (kind_of frame) booking_kind)
    (body_of frame) at in
    (λ h. omega arith, (λ h. omega arith, (λ h. omega arith, (λ h. omega arith, content))))

pub in_frame_number : (g : Progress) (at : ℕ) (frame : List ℕ) (f : Fault) → FirstTest (faults_at g at frame) f
    → InFrame at f
in_frame_number g at frame f t = every_found (InFrame at) (faults_at g at frame) f (faults_at-in_frame g at frame) (first_test_holds t)

-- ── the places that reading comes to ──

pub reached-length : {s : List ℕ} {at : ℕ} {rest : List ℕ} {g : Progress} → Reached s at rest g → at + length rest ≡ length s
reached-length start = omega arith
reached-length (past_foreign {f} {rest} r w) = omega (arith, reached-length r, length-append f rest)
reached-length (past_sound {f} {rest} r w v n) = omega (arith, reached-length r, length-append f rest)

pub reached_read : {s : List ℕ} {at : ℕ} {rest : List ℕ} {g : Progress} → Reached s at rest g → read_on s 0 nothing_read ≡ read_on rest at g
reached_read start = refl
reached_read (past_foreign {at} {f} {rest} {g} r w) = reached_read r ∙ read_on-past_foreign f rest w.whole at g w.version
reached_read (past_sound {at} {f} {rest} {g} r w v n) =
    reached_read r ∙ read_on-past_sound f rest w at g v (none_holds_passes (faults_at g at f) n)

frames : {s : List ℕ} {at : ℕ} {rest : List ℕ} {g : Progress} → Reached s at rest g → ℕ
frames start = 0
frames (past_foreign r w) = suc (frames r)
frames (past_sound r w v n) = suc (frames r)

-- Two ways to one byte pass the same number of frames: after equally many frames both are at the same place, since a list of bytes starts with
-- at most one whole frame, and with a frame more a way is further on, since a frame takes bytes.
module _ {s : List ℕ} where
  same_frames : {at at' : ℕ} {rest rest' : List ℕ} {g g' : Progress} (r : Reached s at rest g) (r' : Reached s at' rest' g')
      → frames r ≡ frames r' → (at ≡ at') × (rest ≡ rest') × (g ≡ g')
  unfolding frames
  same_frames start start e = (refl, refl, refl)
  same_frames start (past_foreign r w) e = absurd (omega arith)
  same_frames start (past_sound r w v n) e = absurd (omega arith)
  same_frames (past_foreign r w) start e = absurd (omega arith)
  same_frames (past_foreign {f = f} {rest = b} r w) (past_foreign {f = f'} {rest = b'} r' w') e =
      let q = same_frames r r' (omega arith) in
      let u = whole_unique f b f' b' w.whole w'.whole q.1 in
      (cc, u.1, q.2)
  same_frames (past_foreign {f = f} {rest = b} r w) (past_sound {f = f'} {rest = b'} r' w' v' n') e =
      let q = same_frames r r' (omega arith) in
      let u = whole_unique f b f' b' w.whole w' q.1 in
      absurd (w.version (ap version_of u.0 ∙ v'))
  same_frames (past_sound r w v n) start e = absurd (omega arith)
  same_frames (past_sound {f = f} {rest = b} r w v n) (past_foreign {f = f'} {rest = b'} r' w') e =
      let q = same_frames r r' (omega arith) in
      let u = whole_unique f b f' b' w w'.whole q.1 in
      absurd (w'.version (ap version_of (sym u.0) ∙ v))
  same_frames (past_sound {f = f} {rest = b} r w v n) (past_sound {f = f'} {rest = b'} r' w' v' n') e =
      let q = same_frames r r' (omega arith) in
      let u = whole_unique f b f' b' w w' q.1 in
      (cc, u.1, cc)

  more_frames : {at at' : ℕ} {rest rest' : List ℕ} {g g' : Progress} (r : Reached s at rest g) (r' : Reached s at' rest' g')
      → frames r < frames r' → at < at'
  unfolding frames
  more_frames r start h = absurd (omega arith)
  more_frames r (past_foreign r' w) h = elim (last_or_below h) [
    | inl e ↦ omega (arith, (same_frames r r' e).0, w.whole.header)
    | inr l ↦ omega (arith, more_frames r r' l)
  ]
  more_frames r (past_sound r' w v n) h = elim (last_or_below h) [
    | inl e ↦ omega (arith, (same_frames r r' e).0, w.header)
    | inr l ↦ omega (arith, more_frames r r' l)
  ]

  pub reached_unique : {at at' : ℕ} {rest rest' : List ℕ} {g g' : Progress} → Reached s at rest g → Reached s at' rest' g'
      → at ≡ at' → (rest ≡ rest') × (g ≡ g')
  reached_unique r r' e = elim (lt-or-le (frames r) (frames r')) [
    | inl h ↦ absurd (omega (arith, more_frames r r' h))
    | inr h ↦ elim (lt-or-le (frames r') (frames r)) [
      | inl h' ↦ absurd (omega (arith, more_frames r' r h'))
      | inr h' ↦ let q = same_frames r r' (omega arith) in (q.1, q.2)
    ]
  ]

-- ── the end of the frames ──

over : (at : ℕ) (g : Progress) → read_on [] at g ≡ ending g at
unfolding read_from
over at g = refl

truncated : (stage : Stage) (at : ℕ) (c : Contents) → stage ≢ Closed → end_verdict stage at c ≡ Err (Truncated at)
truncated Start at c n = refl
truncated Open at c n = refl
truncated Closed at c n = absurd (n refl)

module _ (at : ℕ) (g : Progress) where
  ending-open : g.stage ≢ Closed → ending g at ≡ refused (Truncated at)
  ending-open n = rw (truncated g.stage at g.contents n)

  ending-closed : g.stage ≡ Closed
      → ending g at ≡ judged (hyper_edge_verdict g.contents.head g.contents.jobs) g.contents
  ending-closed c = rw c

-- ── the first fault ──

module _ {s : List ℕ} {at : ℕ} {rest : List ℕ} {g : Progress} where
  pub fault_here_number : {f : Fault} → FaultHere s at rest g f
      → (2 ≤ number_of f) × (number_of f ≤ 15) × (number_of f ≡ 10 → ⊥) × (number_of f ≡ 13 → ⊥)
  fault_here_number (ends_inside h c) = omega arith
  fault_here_number {f} (in_frame frame later e w v t) =
      let n = in_frame_number g at frame f t in
      (omega (arith, n.from_3), n.to_15, n.not_10, n.not_13)
  fault_here_number (no_end e n) = omega arith
  fault_here_number (heavy_hyper_edge e c l) = omega arith

  pub fault_here_read : {f : Fault} → Reached s at rest g → FaultHere s at rest g f → read_on rest at g ≡ refused f
  fault_here_read r (ends_inside h c) = read_on-cut rest at g h c
  fault_here_read {f} r (in_frame frame later e w v t) =
      ap (λ (b : List ℕ). read_on b at g) e ∙ read_on-in_frame frame later w at g v f (first_test_holds t)
  fault_here_read r (no_end e n) =
      let l : at ≡ length s = omega (arith, reached-length r, ap length e) in
      ap (λ (b : List ℕ). read_on b at g) e ∙ over at g ∙ ending-open at g n ∙ ap (λ (i : ℕ). refused (Truncated i)) l
  fault_here_read r (heavy_hyper_edge {n} e c l) =
      ap (λ (b : List ℕ). read_on b at g) e ∙ over at g ∙ ending-closed at g c
      ∙ ap (λ (v : Verdict). judged v g.contents) (hyper_edge_lowest g.contents.head g.contents.jobs n l)

sheet_fault_read : {s : List ℕ} {f : Fault} → SheetFault s f → read_on s 0 nothing_read ≡ refused f
sheet_fault_read x = reached_read x.reached ∙ fault_here_read x.reached x.fault_here

pub sheet_fault_unique : {s : List ℕ} {f f' : Fault} → SheetFault s f → SheetFault s f' → f ≡ f'
sheet_fault_unique {s} {f} {f'} x x' = cc (sheet_fault_read x, sheet_fault_read x')

-- ── what a sheet is read as ──

pub read_too_long : (s : List ℕ) → 65536 < length s → read_sheet s ≡ refused TooLong
unfolding read_sheet
read_too_long s h = rw (lt-ltb 65536 (length s) h, read_sheet)

pub judged-read : {s : List ℕ} {r : Read} → Judgement s r → read_sheet s ≡ r
judged-read {s} (too_long h) = read_too_long s h
judged-read {s} (faulty l x) = read_sheet-within s l ∙ sheet_fault_read x
judged-read {s} (sound {c} l x) =
    let g = x.progress in
    read_sheet-within s l ∙ reached_read x.reached ∙ over (length s) g ∙ ending-closed (length s) g x.closed
    ∙ rw (x.contents_read, hyper_edge_none c.head c.jobs x.none_heavy)

stage_cases : (stage : Stage) → (stage ≡ Closed) ⊎ (stage ≢ Closed)
stage_cases Start = inr (λ e. let z : ◌≡◌ {A = ℕ} 0 1 = cc in omega arith)
stage_cases Open = inr (λ e. let z : ◌≡◌ {A = ℕ} 0 1 = cc in omega arith)
stage_cases Closed = inl refl

-- The frames that are left are judged one by one, from a place that was reached: either a fault is found here, or the place behind the
-- frame is reached.
module _ (s : List ℕ) (within : length s ≤ 65536) where
  module _ (at : ℕ) (g : Progress) (r : Reached s at [] g) where
    all_over : at ≡ length s
    all_over = omega (arith, reached-length r)

    judge_closed : g.stage ≡ Closed → Judgement s (ending g at)
    judge_closed c = elim (verdict_cases (hyper_edge_verdict g.contents.head g.contents.jobs)) [
      | inl a ↦ rw (ending-closed at g c, a)
          (sound within (record {
            progress = g;
            reached = subst (λ (i : ℕ). Reached s i [] g) all_over r;
            closed = c;
            contents_read = refl;
            none_heavy = none_hyper_edge g.contents.head g.contents.jobs a;
          }))
      | inr a ↦
          let q = lowest_hyper_edge g.contents.head g.contents.jobs a.0 a.1 in
          rw (ending-closed at g c, a.1, q.1)
          (faulty within (record { at = at; rest = []; progress = g; reached = r; fault_here = heavy_hyper_edge refl c q.2 }))
    ]

    judge_over : Judgement s (read_on [] at g)
    judge_over = rw (over at g) (elim (stage_cases g.stage) [
      | inl c ↦ judge_closed c
      | inr n ↦ rw (ending-open at g n, all_over)
          (faulty within (record { at = at; rest = []; progress = g; reached = r; fault_here = no_end refl n }))
    ])

  judge_frame : (f rest : List ℕ) → WholeFrame f → ((at : ℕ) (g : Progress) → Reached s at rest g → Judgement s (read_on rest at g))
      → (at : ℕ) (g : Progress) → Reached s at (f ++ rest) g → Judgement s (read_on (f ++ rest) at g)
  judge_frame f rest w on at g r = elim (eq-or-ne (version_of f) ours) [
    | inr v ↦ rw (read_on-past_foreign f rest w at g v) (on (at + length f) g (past_foreign r (record { whole = w; version = v })))
    | inl v ↦ elim (verdict_cases (first_fault (faults_at g at f))) [
      | inl a ↦ rw (read_on-past_sound f rest w at g v a)
          (on (at + length f) (after g (kind_of f) (body_of f)) (past_sound r w v (none_holds (faults_at g at f) a)))
      | inr a ↦ rw (read_on-in_frame f rest w at g v a.0 a.1)
          (faulty within (record {
            at = at;
            rest = f ++ rest;
            progress = g;
            reached = r;
            fault_here = in_frame f rest refl w v (first_test (faults_at g at f) a.0 a.1);
          }))
    ]
  ]

  judge_on : (rest : List ℕ) (at : ℕ) (g : Progress) → Reached s at rest g → Judgement s (read_on rest at g)
  judge_on = frames_induction (λ rest. (at : ℕ) (g : Progress) → Reached s at rest g → Judgement s (read_on rest at g))
      judge_over
      (λ rest h c at g r. rw (read_on-cut rest at g h c)
      (faulty within (record { at = at; rest = rest; progress = g; reached = r; fault_here = ends_inside h c })))
      judge_frame

pub read-judged : (s : List ℕ) → Judgement s (read_sheet s)
read-judged s = elim (lt-or-le 65536 (length s)) [
  | inl h ↦ rw (read_too_long s h) (too_long h)
  | inr h ↦ rw (read_sheet-within s h) (judge_on s h s 0 nothing_read start)
]

pub judgement_unique : {s : List ℕ} {r r' : Read} → Judgement s r → Judgement s r' → r ≡ r'
judgement_unique j j' = sym (judged-read j) ∙ judged-read j'

-- ── each answer by itself ──

judged-too_long : {s : List ℕ} → Judgement s (refused TooLong) → 65536 < length s
judged-too_long (too_long h) = h
judged-too_long (faulty l x) = absurd (omega (arith, fault_here_number x.fault_here))

judged-fault : {s : List ℕ} {f : Fault} → length s ≤ 65536 → Judgement s (refused f) → SheetFault s f
judged-fault h (too_long l) = absurd (omega arith)
judged-fault h (faulty l x) = x

judged-accepted : {s : List ℕ} {c : Contents} → Judgement s (accepted c) → (length s ≤ 65536) × SheetSound s c
judged-accepted (sound l x) = (l, x)

pub too_long_read : (s : List ℕ) → read_sheet s ≡ refused TooLong → 65536 < length s
too_long_read s e = judged-too_long (rw e at (read-judged s))

pub read_fault : (s : List ℕ) (f : Fault) → length s ≤ 65536 → read_sheet s ≡ refused f → SheetFault s f
read_fault s f h e = judged-fault h (rw e at (read-judged s))

pub fault_read : (s : List ℕ) (f : Fault) → length s ≤ 65536 → SheetFault s f → read_sheet s ≡ refused f
fault_read s f h x = judged-read (faulty h x)

pub read_accepted : (s : List ℕ) (c : Contents) → read_sheet s ≡ accepted c → (length s ≤ 65536) × SheetSound s c
read_accepted s c e = judged-accepted (rw e at (read-judged s))

pub accepted_read : (s : List ℕ) (c : Contents) → length s ≤ 65536 → SheetSound s c → read_sheet s ≡ accepted c
accepted_read s c l x = judged-read (sound l x)

-- Request S-3: "No sheet meets fault 10 any more".
pub never_10 : (s : List ℕ) (f : Fault) → read_sheet s ≡ refused f → number_of f ≢ 10
never_10 s f e = elim (lt-or-le 65536 (length s)) [
  | inl l ↦ λ ten. let one : number_of f ≡ 1 = cc (read_too_long s l) in omega arith
  | inr l ↦ (fault_here_number (read_fault s f l e).fault_here).2
]
