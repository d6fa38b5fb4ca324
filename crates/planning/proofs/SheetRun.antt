-- From the bytes of a sheet to the answer.
--     refusal f            a fault, with nothing written
--     day_lent_at, day_lent     the arrays filled with a sheet hold its day, with any target and with its own
--     places_short, loads_short, tables_fit     whether a table is too short for a sheet
--     short_answer         then the answer is fault 13
--     long_enough          with tables that are long enough it is that of the day
--     decided_long, decided_none, decided_plan     the answer, by what is decided
--     refused_answer, accepted_answer     the answer by whether the sheet is read
use Prim.Native.Nat.{ℕ, ◌^◌, ◌≤◌, ◌<◌}
use mathlib.Core.Path.{◌≡◌, refl, sym, ap, subst, ◌∙◌}
use mathlib.Core.Bool.{Bool, true, false, cond, ◌&&◌}
use mathlib.Core.Logic.{inl, inr}
use mathlib.Core.List.{List}
use native.Mathlib.Omega.{arith}
use lib.ListN.{length, get_or, replicate, length-replicate}
use lib.Dec.{ltb}
use borrow.Author.Tests.{lt-ltb, le-ltb}
use Rattle.bools.proofs.BoolLaws.{split, clash, or_left, or_right, or-false}
use Rattle.bits.specs.Bits.{is_set}
use Rattle.fields.specs.Contents.{Contents}
use Rattle.fields.specs.declared.sheet.Head.{Head}
use Rattle.fields.specs.declared.sheet.Sheet.{Sheet}
use Rattle.std.specs.Prelude.{Result, Ok, Err}
use Rattle.fields.specs.declared.fault.Fault.{Fault}
use Rattle.fields.specs.declared.fault.Fault.TheVariants.{Table}
use Rattle.fields.specs.Tests.{job_at}
use Rattle.frame.specs.Reading.{accepted, read_sheet, stored, sheet_of}
use Rattle.frame.specs.Tables.{Tables}
use Rattle.frame.proofs.AcceptedLaws.{accepted_sound}
use Rattle.frame.proofs.SheetTables.{tables_of}
use Rattle.frame.proofs.Stored.{verdict_refused, verdict_accepted}
use Rattle.sums.proofs.TableLaws.{length-table}
use Rattle.day.specs.Day.{Day, day_of, place_in, load_of, with_target}
use Rattle.answers.specs.declared.answer.Answer.TheVariants.{Plan, Long, None, Fault as Faulty}
use Rattle.answers.specs.declared.answer.PlanAnswer.{PlanAnswer}
use Rattle.answers.specs.declared.answer.LongAnswer.{LongAnswer}
use Rattle.answers.specs.declared.answer.NoneAnswer.{NoneAnswer}
use Rattle.answers.specs.declared.answer.Filled.{Filled}
use Rattle.sums.specs.Members.{members}
use Rattle.answers.specs.Answers.{set_of, Reply, fault_reply, Answered}
use Rattle.algorithm.specs.Run.{Outcome, planned, long, blocked, run}
use Rattle.algorithm.specs.Answer.{plan_shown, shown, answer_to, short_tables, answer_for}
use Rattle.algorithm.proofs.SheetDay.{accepted_at}
use Rattle.arrays.specs.Arrays.{filled}
use Rattle.arrays.proofs.FilledLaws.{get_or-filled}
use Rattle.start.specs.StartArrays.{Fields}
use Rattle.decisions.specs.declared.decision.Decision.TheVariants.{Plan as DecidedPlan, Long as DecidedLong}
use Rattle.decisions.specs.declared.decision.Decision.TheVariants.{None as DecidedNone}
use Rattle.decisions.specs.declared.decision.PlanMoves.{PlanMoves}
use Rattle.decisions.specs.Decision.{decision_of, places_in, Lent}
use Rattle.planning.specs.Places.{PlanWritten}

abbrev refusal : Fault → Filled
refusal f = record { answer = Faulty f; places = 0; loads = 0 }

-- ── the answer to a day, by what is decided ──

module _ (d : Day) where
  long-shown : (o : Outcome) (l : LongAnswer) → DecidedLong l ≡ decision_of d o → (places loads : List ℕ)
      → Answered (shown d o) (record { answer = Long l; places = 0; loads = 0 }) places loads places loads
  long-shown (planned ps moves) l e places loads = clash {b = true} refl cc
  long-shown (long j) l e places loads =
      let same : l ≡ record { job = j } = cc in
      record { answer = ap Long same; places_written = refl; loads_written = refl; new_places = refl; new_loads = refl }
  long-shown (blocked set moves) l e places loads = clash {b = true} refl cc

  none-shown : (o : Outcome) (n : NoneAnswer) → DecidedNone n ≡ decision_of d o → (places loads : List ℕ)
      → Answered (shown d o) (record { answer = None n; places = 0; loads = 0 }) places loads places loads
  none-shown (planned ps moves) n e places loads = clash {b = true} refl cc
  none-shown (long j) n e places loads = clash {b = true} refl cc
  none-shown (blocked set moves) n e places loads =
      let same : n ≡ record { set = set_of (members d.benches set); moves = moves } = cc in
      record { answer = ap None same; places_written = refl; loads_written = refl; new_places = refl; new_loads = refl }

  pub plan-shown : (o : Outcome) (p : PlanMoves) → DecidedPlan p ≡ decision_of d o
      → shown d o
      ≡ plan_shown d (places_in o) p.moves
  plan-shown (planned ps moves) p e =
      let same : p ≡ record { moves = moves } = cc in
      ap (λ (m : PlanMoves). plan_shown d ps m.moves) (sym same)
  plan-shown (long j) p e = clash {b = true} refl cc
  plan-shown (blocked set moves) p e = clash {b = true} refl cc

  pub decided_long : (l : LongAnswer) → DecidedLong l ≡ decision_of d (run d) → (places loads : List ℕ)
      → Answered (answer_to d) (record { answer = Long l; places = 0; loads = 0 }) places loads places loads
  decided_long = long-shown (run d)

  pub decided_none : (n : NoneAnswer) → DecidedNone n ≡ decision_of d (run d) → (places loads : List ℕ)
      → Answered (answer_to d) (record { answer = None n; places = 0; loads = 0 }) places loads places loads
  decided_none = none-shown (run d)

  pub decided_plan : (p : PlanMoves) → DecidedPlan p ≡ decision_of d (run d) → length (places_in (run d)) ≡ d.jobs
      → {jobs benches : ℕ} → jobs ≡ d.jobs → benches ≡ d.benches
      → {r : PlanAnswer} {places loads places' loads' : List ℕ}
      → PlanWritten (plan_shown d (places_in (run d)) p.moves) r places loads places' loads'
      → Answered (answer_to d) (record { answer = Plan r; places = jobs; loads = benches }) places loads places' loads'
  decided_plan p e one {jobs} {benches} ej eb {r} {places} {loads} {places'} {loads'} W =
      let filled : Filled = record { answer = Plan r; places = jobs; loads = benches } in
      subst (λ (a : Reply). Answered a filled places loads places' loads') (sym (plan-shown (run d) p e))
      (record {
        answer = W.numbers;
        places_written = ej ∙ sym one;
        loads_written = eb ∙ sym (length-table d.benches (load_of d (place_in (places_in (run d)))));
        new_places = W.new_places;
        new_loads = W.new_loads;
      })

-- ── the day of a sheet ──

module _ (s : List ℕ) (c : Contents) (x : Sheet) (read : read_sheet s ≡ accepted c) (same : x ≡ sheet_of c) where
  T : Tables c x.head.benches x.booked x.count x.minutes x.allowed
  T = tables_of s c x read same

  -- An array that is filled with the entries of another.
  entry_is : (from to₀ : List ℕ) {to : List ℕ} → 512 ≤ length to₀ → to ≡ filled x.count (λ i. get_or from i 0) to₀
      → (j : ℕ) → j < length c.jobs → get_or to j 0 ≡ get_or from j 0
  entry_is from to₀ room e j l =
      ap (λ (xs : List ℕ). get_or xs j 0) e
      ∙ get_or-filled (λ i. get_or from i 0) x.count to₀ j 0
      (omega (arith, T.jobs_are)) (omega (arith, T.sound.at_most_512_jobs))

  fields_at : (t : ℕ) → t < 2 ^ 30 → (minutes₀ allowed₀ : List ℕ) {minutes allowed : List ℕ}
      → 512 ≤ length minutes₀ → 512 ≤ length allowed₀
      → minutes ≡ filled x.count (λ i. get_or x.minutes i 0) minutes₀
      → allowed ≡ filled x.count (λ i. get_or x.allowed i 0) allowed₀
      → Fields (with_target (day_of c) t) x.count minutes allowed
  fields_at t small minutes₀ allowed₀ {minutes} {allowed} rm ra em ea =
      let set_is : (j : ℕ) → j < length c.jobs → get_or allowed j 0 ≡ (job_at c.jobs j).allowed =
      λ j l. entry_is x.allowed allowed₀ ra ea j l ∙ T.allowed_are j l in
      record {
        bounded = record {
          few_benches = T.sound.head.at_most_64_benches;
          few_jobs = T.sound.at_most_512_jobs;
          p_small = T.sound.head.p_fits;
          q_small = T.sound.head.q_fits;
          target_small = small;
          minutes_small = λ j l. (T.sound.jobs j l).minutes_fit;
          booked_small = λ v. omega (arith, T.sound.bookings.booked_fit v);
        };
        jobs_are = T.jobs_are;
        minutes_are = λ j l. entry_is x.minutes minutes₀ rm em j l ∙ T.minutes_are j l;
        allows = λ j v l. ap (λ (k : ℕ). ltb v c.head.benches && is_set 64 k v) (sym (set_is j l));
        none_above = λ j v l far few. elim (split (is_set 64 (job_at c.jobs j).allowed v)) [
          | inl p ↦ absurd (omega (arith, (T.sound.jobs j l).allows_below v few p))
          | inr p ↦ ap (λ (k : ℕ). is_set 64 k v) (set_is j l) ∙ p
        ];
      }

  module _ {minutes allowed booked : List ℕ}
      (em : minutes ≡ filled x.count (λ i. get_or x.minutes i 0) (replicate 512 0))
      (ea : allowed ≡ filled x.count (λ i. get_or x.allowed i 0) (replicate 512 0))
      (eb : booked ≡ filled x.head.benches (λ i. get_or x.booked i 0) (replicate 64 0)) where
    head_is : x.head ≡ c.head
    head_is = ap (λ (y : Sheet). y.head) same

    pub day_lent_at : (t : ℕ) → t < 2 ^ 30
        → Lent (with_target (day_of c) t)
        (record { benches = x.head.benches; p = x.head.p; q = x.head.q; target = t })
        x.count minutes allowed booked
    day_lent_at t small =
        let wide : 512 ≤ length (replicate {A = ℕ} 512 0) = omega (arith, length-replicate {A = ℕ} 512 0) in
        let F = fields_at t small (replicate 512 0) (replicate 512 0) wide wide em ea in
        record {
          accepted = accepted_at c (accepted_sound s c read) t;
          fields = F;
          benches_are = ap (λ (k : Head). k.benches) head_is;
          p_is = ap (λ (k : Head). k.p) head_is;
          q_is = ap (λ (k : Head). k.q) head_is;
          target_is = refl;
          booked_are = λ v h.
              ap (λ (xs : List ℕ). get_or xs v 0) eb
              ∙ get_or-filled (λ i. get_or x.booked i 0) x.head.benches (replicate 64 0) v 0
              (omega (arith, h, T.benches_are))
              (omega (arith, h, F.bounded.few_benches, length-replicate {A = ℕ} 64 0))
              ∙ T.booked_are v;
        }

    pub day_lent : Lent (day_of c) x.head x.count minutes allowed booked
    day_lent =
        let own : ℕ = c.head.target in
        let L = day_lent_at own T.sound.head.target_fits in
        record {
          accepted = L.accepted;
          fields = L.fields;
          benches_are = L.benches_are;
          p_is = L.p_is;
          q_is = L.q_is;
          target_is = ap (λ (k : Head). k.target) head_is;
          booked_are = L.booked_are;
        }

  module _ (np nl : ℕ) where
    pub places_short : np < x.count → short_tables c np nl ≡ true
    places_short below =
        or_left (ltb nl c.head.benches) (lt-ltb np (length c.jobs) (omega (arith, T.jobs_are)))

    pub loads_short : nl < x.head.benches → short_tables c np nl ≡ true
    loads_short below =
        or_right (ltb np (length c.jobs)) (lt-ltb nl c.head.benches (omega (arith, T.benches_are)))

    pub tables_fit : x.count ≤ np → x.head.benches ≤ nl → short_tables c np nl ≡ false
    tables_fit jobs-fit benches-fit =
        or-false (le-ltb np (length c.jobs) (omega (arith, T.jobs_are)))
        (le-ltb nl c.head.benches (omega (arith, T.benches_are)))

    read_answer : answer_for s np nl ≡ cond (short_tables c np nl) (fault_reply (Table 0)) (answer_to (day_of c))
    unfolding answer_for
    read_answer = rw (read, answer_for)

    pub short_answer : short_tables c np nl ≡ true → (places loads : List ℕ)
        → Answered (answer_for s np nl) (refusal (Table 0)) places loads places loads
    short_answer short places loads =
        let answers : answer_for s np nl ≡ fault_reply (Table 0) =
        read_answer ∙ ap (λ (b : Bool). cond b (fault_reply (Table 0)) (answer_to (day_of c))) short in
        subst (λ (a : Reply). Answered a (refusal (Table 0)) places loads places loads) (sym answers)
        (record { answer = refl; places_written = refl; loads_written = refl; new_places = refl; new_loads = refl })

    pub long_enough : short_tables c np nl ≡ false → (r : Filled) (places loads places' loads' : List ℕ)
        → Answered (answer_to (day_of c)) r places loads places' loads'
        → Answered (answer_for s np nl) r places loads places' loads'
    long_enough enough r places loads places' loads' =
        let answers : answer_for s np nl ≡ answer_to (day_of c) =
        read_answer ∙ ap (λ (b : Bool). cond b (fault_reply (Table 0)) (answer_to (day_of c))) enough in
        subst (λ (a : Reply). Answered a r places loads places' loads') (sym answers)

module _ (s : List ℕ) (np nl : ℕ) (places loads : List ℕ) where
  pub refused_answer : {x : Result Sheet Fault} {f : Fault} → x ≡ stored (read_sheet s) → x ≡ Err f
      → Answered (answer_for s np nl) (refusal f) places loads places loads
  unfolding answer_for
  refused_answer {f = f} e a =
      let answers : answer_for s np nl ≡ fault_reply f = rw (verdict_refused (read_sheet s) e a, answer_for) in
      subst (λ (b : Reply). Answered b (refusal f) places loads places loads) (sym answers)
      (record { answer = refl; places_written = refl; loads_written = refl; new_places = refl; new_loads = refl })

  pub accepted_answer : {x : Result Sheet Fault} {sheet : Sheet} {r : Filled} {places' loads' : List ℕ}
      → x ≡ stored (read_sheet s) → x ≡ Ok sheet
      → ((bytes : List ℕ) → (c : Contents) → read_sheet bytes ≡ accepted c → sheet ≡ sheet_of c
      → Answered (answer_for bytes np nl) r places loads places' loads')
      → Answered (answer_for s np nl) r places loads places' loads'
  accepted_answer e a told =
      let (c, read, same) = verdict_accepted (read_sheet s) e a in
      told s c read same
