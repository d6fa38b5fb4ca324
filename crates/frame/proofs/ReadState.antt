-- What the program's loop over the frames keeps, and how each way through its body keeps it.
--     ReadState s sheet stage had at     reading s has come to byte at, and what it has read so far stands in sheet, stage and
--         the set had of benches that had a booking frame
--     state_start, state_fault, state_foreign, state_head, state_booking, state_job, state_end      the loop
--     job_room, bench_room           a sound job is not the 513th; the bench of a booking is below 64
--     next_is, found-is              where the frame at byte at ends, and what it is, by the answers of the program's functions
--     contents_in sheet              what the arrays of a sheet hold
--     state_count, state_minutes, state_contents, state_over     after the loop
use Prim.Native.Nat.{ℕ, ◌+◌, ◌-◌, ◌^◌, ◌≤◌, ◌<◌}
use mathlib.Core.Path.{◌≡◌, refl, sym, ap, ap₂, ◌∙◌}
use mathlib.Core.Bool.{Bool, true, false, ◌||◌}
use mathlib.Core.List.{List, [], ◌∷◌, ◌++◌, map}
use mathlib.Core.Logic.{⊎_elim}
use native.Mathlib.Omega.{arith}
use lib.ListN.{length, get_or, set, drop, take, length-append, length-drop, get_or-append}
use lib.Seq.{get_or-append_seam, drop-drop, take_all}
use lib.Dec.{eqb}
use Rattle.bools.proofs.OrderLaws.{lt-or-le}
use Rattle.bits.specs.Bits.{is_set}
use Rattle.bits.proofs.BitsLaws.{bits-lt}
use Rattle.bits.proofs.SetBits.{is_set-zero}
use Rattle.fields.specs.declared.sheet.Booking.{Booking}
use Rattle.fields.specs.declared.sheet.Head.{Head}
use Rattle.fields.specs.declared.sheet.Job.{Job}
use Rattle.fields.specs.Contents.{Contents}
use Rattle.fields.specs.declared.sheet.Sheet.{Sheet}
use Rattle.judging.specs.declared.judge.Stage.{Stage}
use Rattle.judging.specs.declared.judge.Stage.TheVariants.{Start, Open, Closed}
use Rattle.judging.specs.declared.judge.Frame.{Frame}
use Rattle.judging.specs.declared.judge.Frame.TheVariants as frame
use Rattle.fields.specs.declared.fault.Fault.{Fault}
use Rattle.std.specs.Prelude.{Result, Ok, Err}
use Rattle.fields.specs.Format.{ours, version_of, kind_of, frame_size, body_of, booking_of}
use Rattle.fields.specs.Tests.{Verdict, first_fault, none_had, job_table, no_minutes, job_at, no_job}
use Rattle.frame.specs.Sound.{SoundJob}
use Rattle.judging.specs.FrameTests.{cut}
use Rattle.frame.specs.Reading.{Progress, refused, no_contents, faults_at, with_head, with_booking, with_job, had_with}
use Rattle.frame.specs.Reading.{after_booking, after, end_verdict, judged, read_sheet, stored, padded, sheet_of}
use Rattle.frame.specs.Frames.{read_on}
use Rattle.judging.specs.Steps.{frame_at}
use Rattle.frame.proofs.ReadLaws.{cut-false, read_from-over}
use Rattle.frame.proofs.WholeFrames.{read_sheet-within}
use Rattle.frame.proofs.SheetArrays.{get_or-padded, set-padded, table-padded}
use Rattle.frame.proofs.JudgeLaws.{read_on-foreign, read_on-next, judgement, frame_of-head, frame_of-booking, frame_of-job, frame_of-end}
use Rattle.frame.proofs.FrameAt.{frame_at-had, found, found-fault, found-foreign, found-ours}

-- ── the loop ──

pub record ReadState (s : List ℕ) (sheet : Sheet) (stage : Stage) (had at : ℕ) : Type 0 where
  pub benches_had : ℕ → Bool
  pub contents : Contents
  pub within : at ≤ length s
  pub same_sheet : sheet ≡ sheet_of contents
  pub same_had : (v : ℕ) → v < 64 → is_set 64 had v ≡ benches_had v
  pub at_most_512 : length contents.jobs ≤ 512
  pub p_fits : sheet.head.p < 128
  pub q_fits : sheet.head.q < 128
  pub minutes_fit : (n : ℕ) → n < length contents.jobs → (job_at contents.jobs n).minutes < 2 ^ 20
  pub so_far : read_sheet s ≡ read_on (drop at s) at (record { stage = stage; had = benches_had; contents = contents })

pub state_start : (s : List ℕ) (sheet : Sheet) → length s ≤ 65536 → sheet ≡ sheet_of no_contents
    → ReadState s sheet Start 0 0
state_start s sheet short e =
    record {
      benches_had = none_had;
      contents = no_contents;
      within = omega arith;
      same_sheet = e;
      same_had = λ v l. is_set-zero 64 v;
      at_most_512 = omega arith;
      p_fits = rw e (omega arith);
      q_fits = rw e (omega arith);
      minutes_fit = λ n h. absurd (omega arith);
      so_far = read_sheet-within s short;
    }

module _ (s : List ℕ) (sheet : Sheet) (stage : Stage) (had at : ℕ) (here : ReadState s sheet stage had at) (inside : at < length s) where
  abbrev rest : List ℕ
  rest = drop at s

  abbrev progress : Progress
  progress = record { stage = stage; had = here.benches_had; contents = here.contents }

  some : 0 < length rest
  some = rw length-drop (omega arith)

  pub state_fault : (f : Fault) → found progress at rest ≡ Err f → read_sheet s ≡ refused f
  state_fault f e = here.so_far ∙ found-fault progress at rest some f e

  module _ (next : ℕ) (is-next : next ≡ at + frame_size rest) where
    next_within : cut rest ≡ false → next ≤ length s
    next_within whole = omega (arith, is-next, cut-false rest whole, length-drop at s)

    -- What is left behind the frame.
    left_behind : (g : Progress) → read_on (drop (frame_size rest) rest) (at + frame_size rest) g ≡ read_on (drop next s) next g
    left_behind g =
        ap (λ (xs : List ℕ). read_on xs (at + frame_size rest) g) (drop-drop (frame_size rest) at s)
        ∙ ap (λ (n : ℕ). read_on (drop n s) n g) (sym is-next)

    pub state_foreign : found progress at rest ≡ Ok frame.Foreign → ReadState s sheet stage had next
    state_foreign e =
        let w = found-foreign progress at rest e in
        record {
          benches_had = here.benches_had;
          contents = here.contents;
          within = next_within w.0;
          same_sheet = here.same_sheet;
          same_had = here.same_had;
          at_most_512 = here.at_most_512;
          p_fits = here.p_fits;
          q_fits = here.q_fits;
          minutes_fit = here.minutes_fit;
          so_far = here.so_far ∙ read_on-foreign rest at progress some w.0 w.1 ∙ left_behind progress;
        }

    past : cut rest ≡ false → eqb (version_of rest) ours ≡ true → (g : Progress) → first_fault (faults_at progress at rest) ≡ Ok tt
        → after progress (kind_of rest) (body_of rest) ≡ g → read_sheet s ≡ read_on (drop next s) next g
    past whole v g ok e =
        here.so_far
        ∙ read_on-next rest at progress some whole v ok
        ∙ left_behind (after progress (kind_of rest) (body_of rest))
        ∙ ap (λ (x : Progress). read_on (drop next s) next x) e

    pub state_head : (h : Head) → found progress at rest ≡ Ok (frame.Head h)
        → ReadState s
        (record {
          head = h;
          booked = sheet.booked;
          count = sheet.count;
          minutes = sheet.minutes;
          allowed = sheet.allowed;
        })
        Open had next
    state_head h e =
        let w = found-ours progress at rest (frame.Head h) refl e in
        let read = frame_of-head progress at rest h w.2 in
        record {
          benches_had = here.benches_had;
          contents = with_head here.contents h;
          within = next_within w.0;
          same_sheet =
              ap (λ (x : Sheet). record {
                head = h;
                booked = x.booked;
                count = x.count;
                minutes = x.minutes;
                allowed = x.allowed;
              })
              here.same_sheet;
          same_had = here.same_had;
          at_most_512 = here.at_most_512;
          p_fits = rw read.1 (bits-lt (body_of rest) 7 7);
          q_fits = rw read.1 (bits-lt (body_of rest) 14 7);
          minutes_fit = here.minutes_fit;
          so_far = past w.0 w.1 _ read.0 read.2;
        }

    pub state_end : found progress at rest ≡ Ok frame.End → ReadState s sheet Closed had next
    state_end e =
        let w = found-ours progress at rest frame.End refl e in
        let read = frame_of-end progress at rest w.2 in
        record {
          benches_had = here.benches_had;
          contents = here.contents;
          within = next_within w.0;
          same_sheet = here.same_sheet;
          same_had = here.same_had;
          at_most_512 = here.at_most_512;
          p_fits = here.p_fits;
          q_fits = here.q_fits;
          minutes_fit = here.minutes_fit;
          so_far = past w.0 w.1 _ read.0 read.1;
        }

    module _ (b : Booking) (e : found progress at rest ≡ Ok (frame.Booking b)) where
      read_booking : (first_fault (faults_at progress at rest) ≡ Ok tt) × (b ≡ booking_of (body_of rest))
          × (after progress (kind_of rest) (body_of rest) ≡ after_booking progress b)
      read_booking =
          frame_of-booking progress at rest b (found-ours progress at rest (frame.Booking b) refl e).2

      pub bench_room : b.bench < 64
      bench_room = rw read_booking.1 (bits-lt (body_of rest) 0 6)

      pub state_booking : (more : ℕ)
          → ((v : ℕ) → v < 64 → is_set 64 more v ≡ (is_set 64 had v || eqb v b.bench))
          → ReadState s
          (record {
            head = sheet.head;
            booked = set sheet.booked b.bench b.minutes;
            count = sheet.count;
            minutes = sheet.minutes;
            allowed = sheet.allowed;
          })
          stage more next
      state_booking more one_more =
          let w = found-ours progress at rest (frame.Booking b) refl e in
          record {
            benches_had = had_with here.benches_had b;
            contents = with_booking here.contents b;
            within = next_within w.0;
            same_sheet =
                ap (λ (x : Sheet). record {
                  head = x.head;
                  booked = set x.booked b.bench b.minutes;
                  count = x.count;
                  minutes = x.minutes;
                  allowed = x.allowed;
                })
                here.same_sheet;
            same_had = λ v l.
                one_more v l ∙ ap (λ (x : Bool). x || eqb v b.bench) (here.same_had v l);
            at_most_512 = here.at_most_512;
            p_fits = here.p_fits;
            q_fits = here.q_fits;
            minutes_fit = here.minutes_fit;
            so_far = past w.0 w.1 _ read_booking.0 read_booking.2;
          }

    module _ (j : Job) (e : found progress at rest ≡ Ok (frame.Job j)) where
      whole : cut rest ≡ false
      whole = (found-ours progress at rest (frame.Job j) refl e).0

      version : eqb (version_of rest) ours ≡ true
      version = (found-ours progress at rest (frame.Job j) refl e).1

      judged-job : judgement progress at rest ≡ Ok (frame.Job j)
      judged-job = (found-ours progress at rest (frame.Job j) refl e).2

      job-found : SoundJob here.contents.head.benches (length here.contents.jobs) j
      job-found = (frame_of-job progress at rest j judged-job).3

      count-is : sheet.count ≡ length here.contents.jobs
      count-is = ap (λ (x : Sheet). x.count) here.same_sheet

      pub job_room : sheet.count < 512
      job_room = omega (arith, count-is, job-found)

      jobs-length : length (here.contents.jobs ++ (j ∷ [])) ≡ length here.contents.jobs + 1
      jobs-length = length-append here.contents.jobs (j ∷ [])

      one_job_more : record {
        head = sheet.head;
        booked = sheet.booked;
        count = sheet.count + 1;
        minutes = set sheet.minutes sheet.count j.minutes;
        allowed = set sheet.allowed sheet.count j.allowed;
      } ≡ sheet_of (with_job here.contents j)
      one_job_more =
          let h : sheet.head ≡ here.contents.head = ap (λ (x : Sheet). x.head) here.same_sheet in
          let a : sheet.count + 1 ≡ length (here.contents.jobs ++ (j ∷ [])) = omega (arith, count-is, jobs-length) in
          let b : set sheet.minutes sheet.count j.minutes
          ≡ padded (map (λ x. x.minutes) (here.contents.jobs ++ (j ∷ []))) =
          ap₂ (λ (xs : List ℕ) (n : ℕ). set xs n j.minutes) (ap (λ (x : Sheet). x.minutes) here.same_sheet) count-is
          ∙ set-padded (λ x. x.minutes) here.contents.jobs j job-found.number_below_512
          in
          let c : set sheet.allowed sheet.count j.allowed
          ≡ padded (map (λ x. x.allowed) (here.contents.jobs ++ (j ∷ []))) =
          ap₂ (λ (xs : List ℕ) (n : ℕ). set xs n j.allowed) (ap (λ (x : Sheet). x.allowed) here.same_sheet) count-is
          ∙ set-padded (λ x. x.allowed) here.contents.jobs j job-found.number_below_512
          in
          let k : sheet.booked ≡ here.contents.booked = ap (λ (x : Sheet). x.booked) here.same_sheet in
          rw (h, k, a, b, c)

      more_minutes : (n : ℕ) → n < length (here.contents.jobs ++ (j ∷ []))
          → (job_at (here.contents.jobs ++ (j ∷ [])) n).minutes < 2 ^ 20
      more_minutes n h =
          ⊎_elim
          (λ lt. rw (get_or-append here.contents.jobs (j ∷ []) no_job n lt) (here.minutes_fit n lt))
          (λ le. let last : n ≡ length here.contents.jobs = omega (arith, jobs-length) in
          rw (last, get_or-append_seam here.contents.jobs j [] no_job) job-found.minutes_fit)
          (lt-or-le n (length here.contents.jobs))

      pub state_job : ReadState s
          (record {
            head = sheet.head;
            booked = sheet.booked;
            count = sheet.count + 1;
            minutes = set sheet.minutes sheet.count j.minutes;
            allowed = set sheet.allowed sheet.count j.allowed;
          })
          stage had next
      state_job =
          let read = frame_of-job progress at rest j judged-job in
          record {
            benches_had = here.benches_had;
            contents = with_job here.contents j;
            within = next_within whole;
            same_sheet = one_job_more;
            same_had = here.same_had;
            at_most_512 = omega (arith, jobs-length, job-found);
            p_fits = here.p_fits;
            q_fits = here.q_fits;
            minutes_fit = more_minutes;
            so_far = past whole version _ read.0 read.2;
          }

-- ── what the program asks for at byte at ──

part_is : (s : List ℕ) (at : ℕ) → take (length s - at) (drop at s) ≡ drop at s
part_is s at = take_all (length s - at) (drop at s) (rw length-drop (omega arith))

pub next_is : (s : List ℕ) (at size : ℕ) → size ≡ frame_size (take (length s - at) (drop at s)) → at + size ≡ at + frame_size (drop at s)
next_is s at size e = ap (λ (n : ℕ). at + n) (e ∙ ap (λ (xs : List ℕ). frame_size xs) (part_is s at))

pub found-is : (s : List ℕ) (sheet : Sheet) (stage : Stage) (had at : ℕ) (here : ReadState s sheet stage had at) (x y : Result Frame Fault)
    → x ≡ frame_at stage sheet.head.benches sheet.count (is_set 64 had) at (take (length s - at) (drop at s))
    → x ≡ y
    → found (record { stage = stage; had = here.benches_had; contents = here.contents }) at (drop at s) ≡ y
found-is s sheet stage had at here x y e w =
    let m = here.contents.head.benches in
    let n = length here.contents.jobs in
    sym (
    e
    ∙ ap (λ (z : Sheet). frame_at stage z.head.benches z.count (is_set 64 had) at (take (length s - at) (drop at s)))
    here.same_sheet
    ∙ ap (λ (xs : List ℕ). frame_at stage m n (is_set 64 had) at xs) (part_is s at)
    ∙ frame_at-had stage m n (is_set 64 had) here.benches_had at (drop at s) here.same_had
    )
    ∙ w

-- ── after the loop ──

-- The sheet, if the verdict v accepts it.
abbrev pub reading_of : Verdict → Sheet → Result Sheet Fault
reading_of (Ok _) sheet = Ok sheet
reading_of (Err f) sheet = Err f

reading-judged : (v : Verdict) (c : Contents) (sheet : Sheet) → sheet ≡ sheet_of c
    → reading_of v sheet ≡ stored (judged v c)
unfolding stored
reading-judged (Ok _) c sheet e = ap Ok e
reading-judged (Err f) c sheet e = refl

-- What the arrays of a sheet hold.
abbrev pub contents_in : Sheet → Contents
contents_in x =
    record { head = x.head; booked = x.booked; jobs = job_table x.count x.minutes x.allowed }

module _ (s : List ℕ) (sheet : Sheet) (stage : Stage) (had at : ℕ) (here : ReadState s sheet stage had at) where
  pub state_count : sheet.count ≡ length here.contents.jobs
  state_count = ap (λ (x : Sheet). x.count) here.same_sheet

  pub state_minutes : (n : ℕ) → n < sheet.count → get_or sheet.minutes n no_minutes < 2 ^ 20
  state_minutes n h =
      let lt : n < length here.contents.jobs = omega (arith, state_count) in
      let e : get_or sheet.minutes n no_minutes ≡ (job_at here.contents.jobs n).minutes =
      ap (λ (x : Sheet). get_or x.minutes n no_minutes) here.same_sheet
      ∙ get_or-padded (λ j. j.minutes) here.contents.jobs n no_minutes lt
      in
      rw e (here.minutes_fit n lt)

  pub state_contents : contents_in sheet ≡ here.contents
  state_contents =
      ap contents_in here.same_sheet
      ∙ ap (λ (js : List Job). record { head = here.contents.head; booked = here.contents.booked; jobs = js })
      (table-padded here.contents.jobs)

  pub state_over : length s ≤ at → (r : Result Sheet Fault) → r ≡ reading_of (end_verdict stage at (contents_in sheet)) sheet
      → r ≡ stored (read_sheet s)
  state_over over r e =
      e
      ∙ ap (λ (c : Contents). reading_of (end_verdict stage at c) sheet) state_contents
      ∙ reading-judged (end_verdict stage at here.contents) here.contents sheet here.same_sheet
      ∙ ap stored (sym (
      here.so_far
      ∙ read_from-over (length (drop at s)) (drop at s) at
      (record { stage = stage; had = here.benches_had; contents = here.contents })
      (rw length-drop (omega arith))
      ))
