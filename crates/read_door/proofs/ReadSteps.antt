-- What each step of showing a reading does to the table, and what the reading says. A law's premises are what the calls
-- before it ensure.
-- Bytes of the table:
--     number_put              a number put behind those that stand there
--     head_put                the four numbers of a head
--     job_numbers-append, length-job_numbers  the numbers of jobs
--     jobs_none, jobs_more    no job makes no numbers; a job's two numbers behind those of the first i
--     booked_put              64 booked numbers, put into a part of the table that is as long
--     all_put                 the numbers of the head, then the booked numbers, then those of the jobs
-- What was read:
--     Stored, stored-accepted     what the sheet holds that a reading gives
-- What is returned:
--     Shown                               the two equations of the contract
--     fault_shown, no_room, all_shown     a fault, a table that is too short, and the numbers
use Prim.Native.Nat.{ℕ, ◌+◌, ◌*◌, ◌≤◌, ◌<◌}
use native.Mathlib.Numerals.{add-one}
use native.Mathlib.Omega.{arith}
use mathlib.Core.Path.{◌≡◌, refl, sym, ap, ◌∙◌}
use mathlib.Core.List.{List, [], ◌∷◌, ◌++◌, append_assoc, append-nil, map}
use lib.ListN.{length, get_or, take, drop, length-append, length-map, length-take, length-drop, take-append-drop}
use lib.ListN.{drop_of_length-le}
use borrow.Author.Tests.{lt-ltb, le-ltb}
use borrow.Rule.Slice.PartMut.{post_of, Post-is}
use Rattle.sums.specs.Table.{table}
use Rattle.sums.proofs.TableLaws.{length-table, table-snoc, get_or-there}
use Rattle.bits.specs.Little.{little_of, little_all}
use Rattle.bits.proofs.LittleLaws.{length-little_all, little_all-append, little_all-one}
use Rattle.fields.specs.declared.sheet.Head.{Head}
use Rattle.fields.specs.declared.sheet.Job.{Job}
use Rattle.fields.specs.Contents.{Contents}
use Rattle.fields.specs.declared.sheet.Sheet.{Sheet}
use Rattle.fields.specs.declared.fault.Fault.{Fault}
use Rattle.fields.specs.declared.fault.Fault.TheVariants.{Table}
use Rattle.std.specs.Prelude.{Result, Ok, Err}
use Rattle.fields.specs.Tests.{no_minutes, job_table}
use Rattle.frame.specs.Reading.{accepted, read_sheet, stored, sheet_of}
use Rattle.frame.proofs.WriterSteps.{written, written_after}
use Rattle.frame.proofs.SheetArrays.{length-padded, table-padded}
use Rattle.frame.proofs.AcceptedLaws.{accepted_booked}
use Rattle.frame.proofs.Places.{read_jobs}
use Rattle.frame.proofs.ReadState.{contents_in}
use Rattle.frame.proofs.Stored.{verdict_refused, verdict_accepted}
use Rattle.tables.specs.Tables.{put_numbers, put_fitting}
use Rattle.tables.specs.Words.{fault_word}
use Rattle.tables.proofs.NumberSteps.{fitting_all}
use Rattle.read_door.specs.ReadDoor.{head_numbers, job_numbers, contents_numbers, contents_bytes, read_word, contents_table}

-- ── numbers in the table ──

pub number_put : (t : List ℕ) (at : ℕ) (ns : List ℕ) (v k : ℕ) {one two : List ℕ} → at ≤ length t → 8 * k ≡ at + length ns * 8
    → one ≡ written t at (little_all 8 ns) (8 * k) → two ≡ written one (8 * k) (little_of 8 v) (8 * k + 8)
    → two ≡ written t at (little_all 8 (ns ++ v ∷ [])) (8 * k + 8)
number_put t at ns v k h e first second =
    second
    ∙ rw (first, little_all-append 8 ns (v ∷ []), little_all-one 8 v)
    (written_after t at (little_all 8 ns) (little_of 8 v) (8 * k) (8 * k + 8) h (omega (arith, length-little_all 8 ns)) (omega arith))

start_put : (t : List ℕ) (at : ℕ) → t ≡ written t at (little_all 8 []) at
unfolding little_all
start_put t at = rw (append-nil (take at t)) (sym (take-append-drop at t))

pub head_put : (t : List ℕ) (h : Head) {after : List ℕ} → 32 ≤ length t → after ≡ put_fitting (head_numbers h) t
    → after ≡ little_all 8 (head_numbers h) ++ drop 32 t
unfolding put_numbers
head_put t h room e = e ∙ fitting_all (head_numbers h) t (omega arith)

-- ── the numbers of the jobs ──

pub job_numbers-append : (first second : List Job) → job_numbers (first ++ second) ≡ job_numbers first ++ job_numbers second
unfolding job_numbers
job_numbers-append [] second = refl
job_numbers-append (j ∷ first) second = ap (λ (ns : List ℕ). j.minutes ∷ j.allowed ∷ ns) (job_numbers-append first second)

pub length-job_numbers : (js : List Job) → length (job_numbers js) ≡ 2 * length js
unfolding job_numbers
length-job_numbers [] = refl
length-job_numbers (j ∷ js) = omega (arith, length-job_numbers js)

pub jobs_none : (t : List ℕ) → t ≡ written t 544 (little_all 8 (job_numbers [])) 544
unfolding job_numbers
jobs_none t = start_put t 544

job_numbers-more : (i : ℕ) (job : ℕ → Job)
    → job_numbers (table (i + 1) job) ≡ job_numbers (table i job) ++ (job i).minutes ∷ [] ++ (job i).allowed ∷ []
unfolding job_numbers
job_numbers-more i job =
    ap (λ (n : ℕ). job_numbers (table n job)) (add-one i)
    ∙ ap job_numbers (table-snoc i job)
    ∙ job_numbers-append (table i job) (job i ∷ [])
    ∙ sym (append_assoc (job_numbers (table i job)) ((job i).minutes ∷ []) ((job i).allowed ∷ []))

pub jobs_more : (t ms bs : List ℕ) (i : ℕ) {one two three : List ℕ} → 544 ≤ length t → i < length ms
    → one ≡ written t 544 (little_all 8 (job_numbers (job_table i ms bs))) (544 + 16 * i)
    → two ≡ written one (8 * (68 + 2 * i)) (little_of 8 (get_or ms i 0)) (8 * (68 + 2 * i) + 8)
    → three ≡ written two (8 * (69 + 2 * i)) (little_of 8 (get_or bs i 0)) (8 * (69 + 2 * i) + 8)
    → three ≡ written t 544 (little_all 8 (job_numbers (job_table (i + 1) ms bs))) (544 + 16 * (i + 1))
jobs_more t ms bs i {one} {two} {three} l inside first second third =
    let job : ℕ → Job = λ n. record { minutes = get_or ms n no_minutes; allowed = get_or bs n 0 } in
    let ns : List ℕ = job_numbers (table i job) in
    let m : ℕ = get_or ms i no_minutes in
    let b : ℕ = get_or bs i 0 in
    let here : 544 + 16 * i ≡ 8 * (68 + 2 * i) = omega arith in
    let between : 8 * (68 + 2 * i) + 8 ≡ 8 * (69 + 2 * i) = omega arith in
    let end : 8 * (69 + 2 * i) + 8 ≡ 544 + 16 * (i + 1) = omega arith in
    let numbers : length ns ≡ 2 * i = omega (arith, length-job_numbers (table i job), length-table i job) in
    let begun : two ≡ written t 544 (little_all 8 (ns ++ m ∷ [])) (8 * (68 + 2 * i) + 8) =
    number_put t 544 ns m (68 + 2 * i) l (omega arith) (first ∙ rw here)
    (rw (get_or-there ms i 0 no_minutes inside) at second) in
    let whole : three ≡ written t 544 (little_all 8 (ns ++ m ∷ [] ++ b ∷ [])) (8 * (69 + 2 * i) + 8) =
    number_put t 544 (ns ++ m ∷ []) b (69 + 2 * i) l (omega (arith, length-append ns (m ∷ []))) (begun ∙ rw between) third in
    whole ∙ rw (end, job_numbers-more i job)

-- The part of the table that is as long as 64 numbers becomes these.
pub booked_put : (t booked : List ℕ) {part : List ℕ} → length booked ≡ 64 → 544 ≤ length t
    → part ≡ put_fitting booked (take 512 (drop 32 t))
    → take 32 t ++ (part ++ post_of 32 512 t) ≡ written t 32 (little_all 8 booked) 544
unfolding put_numbers
booked_put t booked size room e =
    let old = take 512 (drop 32 t) in
    let full : length old ≡ 512 = omega (arith, length-take 512 (drop 32 t), length-drop 32 t) in
    let new =
    e
    ∙ fitting_all booked old (omega arith)
    ∙ ap (λ (rest : List ℕ). little_all 8 booked ++ rest) (drop_of_length-le old {i = 8 * length booked} (omega arith))
    ∙ append-nil (little_all 8 booked) in
    ap (λ (s : List ℕ). take 32 t ++ (s ++ post_of 32 512 t)) new
    ∙ ap (λ (rest : List ℕ). take 32 t ++ (little_all 8 booked ++ rest)) (Post-is 32 544 t (omega arith))
    ∙ sym (append_assoc (take 32 t) (little_all 8 booked) (drop 544 t))

pub all_put : (t : List ℕ) (c : Contents) (n : ℕ) {one two three : List ℕ} → length c.booked ≡ 64
    → one ≡ little_all 8 (head_numbers c.head) ++ drop 32 t
    → two ≡ written one 32 (little_all 8 c.booked) 544
    → three ≡ written two 544 (little_all 8 (job_numbers c.jobs)) (544 + 16 * n)
    → three ≡ little_all 8 (contents_numbers c) ++ drop (544 + 16 * n) t
all_put t c n size first second third =
    let head : List ℕ = head_numbers c.head in
    let booked : List ℕ = c.booked in
    let jobs : List ℕ = job_numbers c.jobs in
    let opening : _ ≡ little_all 8 head ++ little_all 8 booked ++ drop 544 t =
    second
    ∙ rw first
    (written_after t 0 (little_all 8 head) (little_all 8 booked) 32 544 (omega arith)
    (omega (arith, length-little_all 8 head)) (omega arith)) in
    let bytes : length (little_all 8 head ++ little_all 8 booked) ≡ 544 =
    length-append (little_all 8 head) (little_all 8 booked)
    ∙ omega (arith, length-little_all 8 head, length-little_all 8 booked) in
    third
    ∙ rw opening
    (written_after t 0 (little_all 8 head ++ little_all 8 booked) (little_all 8 jobs) 544 (544 + 16 * n) (omega arith)
    (omega (arith, bytes)) (omega arith))
    ∙ ap (λ (s : List ℕ). s ++ drop (544 + 16 * n) t)
    (append_assoc (little_all 8 head) (little_all 8 booked) (little_all 8 jobs)
    ∙ ap (λ (s : List ℕ). little_all 8 head ++ s) (sym (little_all-append 8 booked jobs))
    ∙ sym (little_all-append 8 head (booked ++ jobs)))

-- ── what was read ──

pub record Stored (s : List ℕ) (x : Sheet) : Type 0 where
  pub contents : Contents
  pub sheet_read : read_sheet s ≡ accepted contents
  pub job_count : length contents.jobs ≡ x.count
  pub few_jobs : x.count ≤ 512
  pub booked_length : length x.booked ≡ 64
  pub minutes_length : length x.minutes ≡ 512
  pub allowed_length : length x.allowed ≡ 512
  pub held : contents_in x ≡ contents

pub stored-accepted : (s : List ℕ) {x : Result Sheet Fault} {sheet : Sheet} → x ≡ stored (read_sheet s) → x ≡ Ok sheet
    → Stored s sheet
stored-accepted s {x} {sheet} e a =
    let q = verdict_accepted (read_sheet s) e a in
    let c : Contents = q.0 in
    let few = read_jobs s c q.1 in
    let same : sheet ≡ sheet_of c = q.2 in
    record {
      contents = c;
      sheet_read = q.1;
      job_count = sym (ap (λ (y : Sheet). y.count) same);
      few_jobs = omega (arith, ap (λ (y : Sheet). y.count) same);
      booked_length = ap (λ (y : Sheet). length y.booked) same ∙ accepted_booked s c q.1;
      minutes_length =
          ap (λ (y : Sheet). length y.minutes) same
          ∙ length-padded (map (λ j. j.minutes) c.jobs) (rw length-map few);
      allowed_length =
          ap (λ (y : Sheet). length y.allowed) same
          ∙ length-padded (map (λ j. j.allowed) c.jobs) (rw length-map few);
      held =
          ap contents_in same
          ∙ ap (λ (js : List Job). record { head = c.head; booked = c.booked; jobs = js }) (table-padded c.jobs);
    }

-- ── what is returned ──

abbrev pub Shown : List ℕ → List ℕ → ℕ → List ℕ → Type 0
Shown s t r after = (r ≡ read_word (read_sheet s) (length t)) × (after ≡ contents_table (read_sheet s) t)

module _ (s t : List ℕ) where
  pub fault_shown : {x : Result Sheet Fault} {f : Fault} {r : ℕ} → x ≡ stored (read_sheet s) → x ≡ Err f
      → r ≡ fault_word f → Shown s t r t
  unfolding read_word contents_table
  fault_shown e a w = let q = verdict_refused (read_sheet s) e a in (rw q w, rw q)

  module _ (x : Sheet) (k : Stored s x) where
    size : contents_bytes k.contents ≡ 544 + 16 * x.count
    size = omega (arith, k.job_count)

    pub no_room : {r : ℕ} → length t < 544 + 16 * x.count → r ≡ fault_word (Table 0) → Shown s t r t
    unfolding read_word contents_table
    no_room l w =
        let short = lt-ltb (length t) (contents_bytes k.contents) (omega (arith, size)) in
        (rw (k.sheet_read, short) w, rw (k.sheet_read, short))

    pub all_shown : {one two three : List ℕ} → 544 + 16 * x.count ≤ length t
        → one ≡ little_all 8 (head_numbers x.head) ++ drop 32 t
        → two ≡ written one 32 (little_all 8 x.booked) 544
        → three ≡ written two 544 (little_all 8 (job_numbers (job_table x.count x.minutes x.allowed)))
        (544 + 16 * x.count)
        → Shown s t x.count three
    unfolding read_word contents_table
    all_shown l first second third =
        let room = le-ltb (length t) (contents_bytes k.contents) (omega (arith, size)) in
        let shown =
        all_put t (contents_in x) x.count k.booked_length first second third
        ∙ ap (λ (c : Contents). little_all 8 (contents_numbers c) ++ drop (544 + 16 * x.count) t) k.held in
        (rw (k.sheet_read, room) (sym k.job_count), rw (k.sheet_read, room, size) shown)
