-- "Adding whole frames of other versions between frames changes nothing that is read, if the sheet stays within 65,536 bytes; fault places
-- counted in bytes move along." (document 01, "The sheet")
-- Of moved faults:
--     number_of-moved         a moved fault keeps its number
--     moved_verdict           a verdict with its fault moved
--     faults_at-moved         the tests at a frame that stands elsewhere find the same fault, moved
--     ending-moved            so does what is judged after the last frame
-- Of the same frames at another place:
--     Moves by at at'         the bytes from byte at on stand from byte at' on, each moved on by its by bytes
--     read_from-moved         what is read of them is the same, moved
--     read_from-shift         where they stand d bytes later, every byte place moves by d
-- Of added frames:
--     read_on-padded          what is read of bytes with foreign frames added is the same, moved
--     padded-length           adding frames makes no sheet shorter
--     read_padded             the sentence itself, for any number of added frames: a byte place moves by the bytes added before it
--     moved_read-accepted     what is accepted has no place that moves
--     read_padded_accepted    with frames added a sheet is accepted exactly where it is without, with the same contents
--     padded_one              one foreign frame behind a row of frames is a case of this
--     read_foreign            the sentence for one added frame
use Prim.Native.Nat.{ℕ, zero, suc, ◌+◌, ◌-◌, ◌≤◌, ◌<◌}
use mathlib.Core.Path.{◌≡◌, refl, sym, ap, ◌∙◌, fun_ext}
use mathlib.Core.Bool.{Bool, true, false, cond}
use mathlib.Core.Logic.{◌≢◌, inl, inr, ◌↔◌}
use mathlib.Core.List.{List, [], ◌∷◌, ◌++◌, map, append_assoc}
use native.Mathlib.Nat.{add-zero, zero-add, add_assoc}
use native.Mathlib.Omega.{arith}
use lib.ListN.{length, drop, length-append}
use lib.Dec.{eqb, leb, ltb}
use borrow.Author.Tests.{eqb-true, lt-ltb, le-ltb, le-leb}
use Rattle.bools.proofs.BoolLaws.{split, bool_ext, tests}
use Rattle.bools.proofs.OrderLaws.{eq-or-ne}
use Rattle.sums.specs.Search.{least}
use Rattle.fields.specs.declared.sheet.Booking.{Booking}
use Rattle.fields.specs.declared.sheet.Head.{Head}
use Rattle.fields.specs.declared.sheet.Job.{Job}
use Rattle.fields.specs.Contents.{Contents}
use Rattle.judging.specs.declared.judge.Stage.{Stage}
use Rattle.judging.specs.declared.judge.Stage.TheVariants.{Start, Open, Closed}
use Rattle.fields.specs.declared.fault.Fault.{Fault}
use Rattle.fields.specs.declared.fault.Fault.TheVariants.{TooLong, Truncated, UnknownKind, Misplaced, WrongLength, SpareBit, BenchCount, Share, JobCount, Minutes, Allowed, HeavyHyperEdge, Table}
use Rattle.fields.specs.declared.fault.Fault.TheVariants.{BookedBench, BookedTwice, PlaceCount, SetBench, SharedBench}
use Rattle.fields.specs.Tests.{Verdict}
use Rattle.std.specs.Prelude.{Ok, Err}
use Rattle.fields.specs.Numbers.{number_of}
use Rattle.fields.specs.Format.{ours, head_kind, job_kind, booking_kind, version_of, kind_of, frame_size, body_of}
use Rattle.fields.specs.Format.{head_of, job_of, booking_of}
use Rattle.fields.specs.Tests.{Test, first_fault, head_faults, booking_faults, job_faults, heavy_hyper_edge_at, hyper_edge_verdict}
use Rattle.judging.specs.FrameTests.{frame_faults, cut}
use Rattle.frame.specs.Reading.{Progress, Read, accepted, refused, nothing_read, faults_at, after, judged, end_verdict, ending, read_from, read_sheet}
use Rattle.frame.specs.Frames.{WholeFrame, Foreign, Row, no_frame, a_frame, Padded, unchanged, kept, added, added_before, moved_by, from_on, moved_read_by, moved_read, read_on}
use Rattle.frame.proofs.ReadLaws.{read_from-over, read_from-cut, read_from-foreign, read_from-fault, read_from-next}
use Rattle.frame.proofs.WholeFrames.{verdict_cases, read_on-past_foreign, read_on-past_sound, read_on-in_frame, read_sheet-within}

-- ── moved faults ──

pub number_of-moved : (by : ℕ → ℕ) (f : Fault) → number_of (moved_by by f) ≡ number_of f
unfolding moved_by
number_of-moved by TooLong = refl
number_of-moved by (Truncated at) = refl
number_of-moved by (UnknownKind at) = refl
number_of-moved by (Misplaced at) = refl
number_of-moved by (WrongLength at) = refl
number_of-moved by (SpareBit at) = refl
number_of-moved by (BenchCount at) = refl
number_of-moved by (Share at) = refl
number_of-moved by (JobCount at) = refl
number_of-moved by (Minutes at) = refl
number_of-moved by (Allowed at) = refl
number_of-moved by (HeavyHyperEdge job) = refl
number_of-moved by (Table at) = refl
number_of-moved by (BookedBench at) = refl
number_of-moved by (BookedTwice at) = refl
number_of-moved by PlaceCount = refl
number_of-moved by (SetBench at) = refl
number_of-moved by (SharedBench set) = refl

abbrev moved_test : (ℕ → ℕ) → Test → Test
moved_test by t = record { holds = t.holds; fault = moved_by by t.fault }

abbrev pub moved_verdict : (ℕ → ℕ) → Verdict → Verdict
moved_verdict by (Ok _) = Ok tt
moved_verdict by (Err f) = Err (moved_by by f)

first_fault-moved : (by : ℕ → ℕ) (ts : List Test) → first_fault (map (moved_test by) ts) ≡ moved_verdict by (first_fault ts)
first_fault-moved by [] = refl
first_fault-moved by (t ∷ ts) = elim (split t.holds) [ inl p ↦ rw p | inr p ↦ rw p (first_fault-moved by ts) ]

module _ (by : ℕ → ℕ) (h : Head) (m n : ℕ) (j : Job) (had : ℕ → Bool) (k : Booking) (at : ℕ) where
  content_faults-moved : (a b c : Bool)
      → cond a (head_faults h (at + by at))
      (cond b (job_faults m n j (at + by at)) (cond c (booking_faults m had k (at + by at)) []))
      ≡ map (moved_test by)
      (cond a (head_faults h at) (cond b (job_faults m n j at) (cond c (booking_faults m had k at) [])))
  unfolding moved_by
  content_faults-moved true b c = refl
  content_faults-moved false true c = refl
  content_faults-moved false false true = refl
  content_faults-moved false false false = refl

frame_faults-moved : (by : ℕ → ℕ) (stage : Stage) (m n : ℕ) (had : ℕ → Bool) (at kind : ℕ) (body : List ℕ)
    → frame_faults stage m n had (at + by at) kind body ≡ map (moved_test by) (frame_faults stage m n had at kind body)
unfolding frame_faults moved_by
frame_faults-moved by stage m n had at kind body =
    rw (content_faults-moved by (head_of body) m n (job_of body) had (booking_of body) at
    (eqb kind head_kind) (eqb kind job_kind) (eqb kind booking_kind))

pub faults_at-moved : (by : ℕ → ℕ) (g : Progress) (at : ℕ) (frame : List ℕ)
    → first_fault (faults_at g (at + by at) frame) ≡ moved_verdict by (first_fault (faults_at g at frame))
faults_at-moved by g at frame =
    ap first_fault
    (frame_faults-moved by g.stage g.contents.head.benches (length g.contents.jobs) g.had at
    (kind_of frame) (body_of frame))
    ∙ first_fault-moved by (faults_at g at frame)

-- 12 has a job number for its place.
job_fault_moved : (by : ℕ → ℕ) (b : Bool) (n : ℕ)
    → cond b (Err (HeavyHyperEdge n)) (Ok tt) ≡ moved_verdict by (cond b (Err (HeavyHyperEdge n)) (Ok tt))
unfolding moved_by
job_fault_moved by true n = refl
job_fault_moved by false n = refl

hyper_edge_verdict-moved : (by : ℕ → ℕ) (h : Head) (js : List Job) → hyper_edge_verdict h js ≡ moved_verdict by (hyper_edge_verdict h js)
unfolding hyper_edge_verdict
hyper_edge_verdict-moved by h js = let n = least (length js) (heavy_hyper_edge_at h js) in job_fault_moved by (ltb n (length js)) n

end_verdict-moved : (by : ℕ → ℕ) (stage : Stage) (at : ℕ) (c : Contents)
    → end_verdict stage (at + by at) c ≡ moved_verdict by (end_verdict stage at c)
unfolding moved_by
end_verdict-moved by Start at c = refl
end_verdict-moved by Open at c = refl
end_verdict-moved by Closed at c = hyper_edge_verdict-moved by c.head c.jobs

judged-moved : (by : ℕ → ℕ) (v : Verdict) (c : Contents) → judged (moved_verdict by v) c ≡ moved_read_by by (judged v c)
unfolding moved_read_by
judged-moved by (Ok _) c = refl
judged-moved by (Err f) c = refl

pub ending-moved : (by : ℕ → ℕ) (g : Progress) (at : ℕ) → ending g (at + by at) ≡ moved_read_by by (ending g at)
ending-moved by g at =
    ap (λ (v : Verdict). judged v g.contents) (end_verdict-moved by g.stage at g.contents)
    ∙ judged-moved by (end_verdict g.stage at g.contents) g.contents

-- ── the same frames at another place ──

refused_moved : (by : ℕ → ℕ) (f : Fault) → moved_read_by by (refused f) ≡ refused (moved_by by f)
unfolding moved_read_by
refused_moved by f = refl

truncated_moved : (by : ℕ → ℕ) (at : ℕ) → refused (Truncated (at + by at)) ≡ moved_read_by by (refused (Truncated at))
unfolding moved_read_by moved_by
truncated_moved by at = refl

abbrev pub Moves : (ℕ → ℕ) → ℕ → ℕ → Type 0
Moves by at at' = (x : ℕ) → at + x + by (at + x) ≡ at' + x

moves_here : (by : ℕ → ℕ) (at at' : ℕ) → Moves by at at' → at' ≡ at + by at
moves_here by at at' e = sym (simp add-zero at (e 0))

moves_on : (by : ℕ → ℕ) (at at' n : ℕ) → Moves by at at' → Moves by (at + n) (at' + n)
moves_on by at at' n e x = rw (add_assoc at n x, add_assoc at' n x) (e (n + x))

-- Both readings take the same case at each frame: only the places differ, and they differ alike behind the frame.
module _ (by : ℕ → ℕ) (k : ℕ) (rest : List ℕ) (at at' : ℕ) (g : Progress) (e : Moves by at at')
    (on : (g : Progress)
    → read_from k (drop (frame_size rest) rest) (at' + frame_size rest) g ≡ moved_read_by by (read_from k (drop (frame_size rest) rest) (at + frame_size rest) g)) where
  over_moved : length rest ≡ 0 → read_from (suc k) rest at' g ≡ moved_read_by by (read_from (suc k) rest at g)
  over_moved z =
      rw (read_from-over (suc k) rest at' g z, read_from-over (suc k) rest at g z, moves_here by at at' e) (ending-moved by g at)

  module _ (some : eqb (length rest) 0 ≡ false) where
    cut_moved : cut rest ≡ true → read_from (suc k) rest at' g ≡ moved_read_by by (read_from (suc k) rest at g)
    cut_moved c =
        rw (read_from-cut k rest at' g some c, read_from-cut k rest at g some c, moves_here by at at' e) (truncated_moved by at)

    module _ (whole : cut rest ≡ false) where
      foreign_moved : eqb (version_of rest) ours ≡ false → read_from (suc k) rest at' g ≡ moved_read_by by (read_from (suc k) rest at g)
      foreign_moved v = rw (read_from-foreign k rest at' g some whole v, read_from-foreign k rest at g some whole v) (on g)

      module _ (v : eqb (version_of rest) ours ≡ true) where
        there : first_fault (faults_at g at' rest) ≡ moved_verdict by (first_fault (faults_at g at rest))
        there = rw (moves_here by at at' e) (faults_at-moved by g at rest)

        sound_moved : first_fault (faults_at g at rest) ≡ Ok tt → read_from (suc k) rest at' g ≡ moved_read_by by (read_from (suc k) rest at g)
        sound_moved a =
            rw (read_from-next k rest at' g some whole v (there ∙ ap (moved_verdict by) a), read_from-next k rest at g some whole v a)
            (on (after g (kind_of rest) (body_of rest)))

        fault_moved : (f : Fault) → first_fault (faults_at g at rest) ≡ Err f → read_from (suc k) rest at' g ≡ moved_read_by by (read_from (suc k) rest at g)
        fault_moved f a =
            rw (read_from-fault k rest at' g some whole (moved_by by f) v (there ∙ ap (moved_verdict by) a), read_from-fault k rest at g some whole f v a)
            (sym (refused_moved by f))

  frame_moved : read_from (suc k) rest at' g ≡ moved_read_by by (read_from (suc k) rest at g)
  frame_moved = elim (split (eqb (length rest) 0)) [
    | inl z ↦ over_moved (eqb-true (length rest) 0 z)
    | inr some ↦ elim (split (cut rest)) [
      | inl c ↦ cut_moved some c
      | inr whole ↦ elim (split (eqb (version_of rest) ours)) [
        | inr v ↦ foreign_moved some whole v
        | inl v ↦ elim (verdict_cases (first_fault (faults_at g at rest))) [
          | inl a ↦ sound_moved some whole v a
          | inr a ↦ fault_moved some whole v a.0 a.1
        ]
      ]
    ]
  ]

pub read_from-moved : (by : ℕ → ℕ) (k : ℕ) (rest : List ℕ) (at at' : ℕ) (g : Progress) → Moves by at at'
    → read_from k rest at' g ≡ moved_read_by by (read_from k rest at g)
unfolding read_from
read_from-moved by zero rest at at' g e = rw (moves_here by at at' e) (ending-moved by g at)
read_from-moved by (suc k) rest at at' g e =
    frame_moved by k rest at at' g e
    (λ g. read_from-moved by k (drop (frame_size rest) rest) (at + frame_size rest) (at' + frame_size rest) g (moves_on by at at' (frame_size rest) e))

pub read_from-shift : (k : ℕ) (rest : List ℕ) (at d : ℕ) (g : Progress) → read_from k rest (at + d) g ≡ moved_read 0 d (read_from k rest at g)
read_from-shift k rest at d g =
    read_from-moved (from_on 0 d) k rest at (at + d) g (λ x. rw (le-leb 0 (at + x) (omega arith)) (omega arith))

-- ── added frames ──

-- Behind a frame that is kept, both readings stand at the same frame again.
module _ (by : ℕ → ℕ) (f s t : List ℕ) (w : WholeFrame f) (at at' : ℕ) (g : Progress) (here : at' ≡ at + by at)
    (on : (g : Progress) → read_on t (at' + length f) g ≡ moved_read_by by (read_on s (at + length f) g)) where
  kept_foreign : version_of f ≢ ours → read_on (f ++ t) at' g ≡ moved_read_by by (read_on (f ++ s) at g)
  kept_foreign v = rw (read_on-past_foreign f t w at' g v, read_on-past_foreign f s w at g v) (on g)

  module _ (v : version_of f ≡ ours) where
    kept_tests : first_fault (faults_at g at' f) ≡ moved_verdict by (first_fault (faults_at g at f))
    kept_tests = rw here (faults_at-moved by g at f)

    kept_sound : first_fault (faults_at g at f) ≡ Ok tt → read_on (f ++ t) at' g ≡ moved_read_by by (read_on (f ++ s) at g)
    kept_sound a =
        rw (read_on-past_sound f t w at' g v (kept_tests ∙ ap (moved_verdict by) a), read_on-past_sound f s w at g v a)
        (on (after g (kind_of f) (body_of f)))

    kept_fault : (x : Fault) → first_fault (faults_at g at f) ≡ Err x → read_on (f ++ t) at' g ≡ moved_read_by by (read_on (f ++ s) at g)
    kept_fault x a =
        rw (read_on-in_frame f t w at' g v (moved_by by x) (kept_tests ∙ ap (moved_verdict by) a), read_on-in_frame f s w at g v x a)
        (sym (refused_moved by x))

  kept_moved : read_on (f ++ t) at' g ≡ moved_read_by by (read_on (f ++ s) at g)
  kept_moved = elim (eq-or-ne (version_of f) ours) [
    | inr v ↦ kept_foreign v
    | inl v ↦ elim (verdict_cases (first_fault (faults_at g at f))) [ inl a ↦ kept_sound v a | inr a ↦ kept_fault v a.0 a.1 ]
  ]

-- Nothing is added before a byte of a frame that is kept; behind it, what is added counts from there.
module _ (f s t : List ℕ) (w : WholeFrame f) (p : Padded s t) where
  kept_inside : (x : ℕ) → x < length f → added_before (kept w p) x ≡ 0
  unfolding added_before
  kept_inside x h = rw (lt-ltb x (length f) h)

  kept_behind : (x : ℕ) → added_before (kept w p) (length f + x) ≡ added_before p x
  unfolding added_before
  kept_behind x =
      let e : length f + x - length f ≡ x = omega arith in
      rw (le-ltb (length f + x) (length f) (omega arith), e)

  module _ (by : ℕ → ℕ) (at at' : ℕ) (e : (x : ℕ) → at + x + by (at + x) ≡ at' + x + added_before (kept w p) x) where
    kept_here : at' ≡ at + by at
    kept_here = omega (arith, simp add-zero at (e 0), kept_inside 0 (omega (arith, w.header)))

    kept_on : (x : ℕ) → at + length f + x + by (at + length f + x) ≡ at' + length f + x + added_before p x
    kept_on x = rw (add_assoc at (length f) x) (omega (arith, e (length f + x), kept_behind x))

-- Byte x of s is byte x + added_before p x of t. Both are read at once, frame by frame. A frame that was added is skipped, and moves all that
-- follows by its length. A frame that was kept is judged alike in both, so both readings end there with the same fault, moved, or go on
-- with the same progress. Behind the last of these the two have the same bytes left.
pub read_on-padded : {s t : List ℕ} (p : Padded s t) (by : ℕ → ℕ) (at at' : ℕ) (g : Progress)
    → ((x : ℕ) → at + x + by (at + x) ≡ at' + x + added_before p x) → read_on t at' g ≡ moved_read_by by (read_on s at g)
unfolding added_before
read_on-padded (unchanged {s}) by at at' g e = read_from-moved by (length s) s at at' g (λ x. omega (arith, e x))
read_on-padded (kept {f} {s} {t} w p) by at at' g e =
    kept_moved by f s t w at at' g (kept_here f s t w p by at at' e)
    (λ g. read_on-padded p by (at + length f) (at' + length f) g (kept_on f s t w p by at at' e))
read_on-padded (added {f} {s} {t} w p) by at at' g e =
    read_on-past_foreign f t w.whole at' g w.version ∙ read_on-padded p by at (at' + length f) g (λ x. omega (arith, e x))

pub padded-length : {s t : List ℕ} → Padded s t → length s ≤ length t
padded-length unchanged = omega arith
padded-length (kept {f} {s} {t} w p) = simp length-append (omega (arith, padded-length p))
padded-length (added {f} {s} {t} w p) = simp length-append (omega (arith, padded-length p))

pub read_padded : {s t : List ℕ} (p : Padded s t) → length t ≤ 65536 → read_sheet t ≡ moved_read_by (added_before p) (read_sheet s)
read_padded {s} {t} p h =
    rw (read_sheet-within t h, read_sheet-within s (omega (arith, padded-length p)))
    (read_on-padded p (added_before p) 0 0 nothing_read (λ x. rw zero-add refl))

pub moved_read-accepted : (by : ℕ → ℕ) (r : Read) (c : Contents) → (moved_read_by by r ≡ accepted c) ↔ (r ≡ accepted c)
unfolding moved_read_by
moved_read-accepted by (accepted c') c = (λ e. e, λ e. e)
moved_read-accepted by (refused f) c = (λ e. cc, λ e. cc)

pub read_padded_accepted : {s t : List ℕ} → Padded s t → length t ≤ 65536 → (c : Contents)
    → (read_sheet t ≡ accepted c) ↔ (read_sheet s ≡ accepted c)
read_padded_accepted {s} {t} p l c = rw (read_padded p l) (moved_read-accepted (added_before p) (read_sheet s) c)

-- ── one added frame ──

OneAdded : List ℕ → List ℕ → ℕ → ℕ → Type 0
OneAdded s t from by = (p : Padded s t) × ((at : ℕ) → added_before p at ≡ from_on from by at)

-- Behind a kept frame of l bytes, byte at counts as byte at - l.
from_on-behind : (l from by at : ℕ) → cond (ltb at l) 0 (from_on from by (at - l)) ≡ from_on (l + from) by at
from_on-behind l from by at = elim (split (ltb at l)) [
  | inl p ↦ let q : leb (l + from) at ≡ false = omega tests in rw (p, q)
  | inr p ↦ let q : leb from (at - l) ≡ leb (l + from) at = bool_ext _ _ (λ h. omega tests) (λ h. omega tests) in rw (p, q)
]

one_added : {a : List ℕ} → Row a → (f b : List ℕ) → Foreign f → OneAdded (a ++ b) (a ++ (f ++ b)) (length a) (length f)
unfolding OneAdded added_before
one_added no_frame f b w = (added w unchanged, λ at. rw (le-leb 0 at (omega arith), add-zero (length f)))
one_added (a_frame {f = x} {s = a} u r) f b w =
    let q = one_added r f b w in
    rw (append_assoc x a b, append_assoc x a (f ++ b), length-append x a)
    (kept u q.0, λ at. ap (cond (ltb at (length x)) 0) (q.1 (at - length x)) ∙ from_on-behind (length x) (length a) (length f) at)

pub padded_one : (a f b : List ℕ) → Row a → Foreign f → Padded (a ++ b) (a ++ (f ++ b))
unfolding OneAdded
padded_one a f b r w = (one_added r f b w).0

pub read_foreign : (a f b : List ℕ) → Row a → Foreign f → length (a ++ (f ++ b)) ≤ 65536
    → read_sheet (a ++ (f ++ b)) ≡ moved_read (length a) (length f) (read_sheet (a ++ b))
unfolding OneAdded
read_foreign a f b r w h =
    let q = one_added r f b w in
    read_padded q.0 h ∙ ap (λ (by : ℕ → ℕ). moved_read_by by (read_sheet (a ++ b))) (fun_ext q.1)
