-- Demand 3, proved of the planner's reply: specs/Claim has the claim, algorithm's specs/Answer the reply.
--     short_tested, room_tested     the test for fault 13, by the lengths of the tables
--     answer_given        an accepted sheet and tables with room: the reply is that to the sheet's day
--     plan_tables         a plan, once it stands at the front of both tables
--     named_set           the set of a none, as a number
--     planner_claim       the claim holds of the reply to any bytes and any two tables, and of the tables after it
--     answered_claim      so it holds of whatever call is answered so: `Answered` is what the planner's contract ensures
--     answered_room       who gets one of the three answers had an accepted sheet and tables with room
use Prim.Native.Nat.{ℕ, ◌≤◌, ◌<◌}
use mathlib.Core.Path.{◌≡◌, refl, sym, ap, subst, ◌∙◌}
use mathlib.Core.Logic.{◌⊎◌, inl, inr}
use mathlib.Core.Bool.{true, false}
use mathlib.Core.List.{List}
use native.Mathlib.Omega.{arith}
use lib.ListN.{length, get_or, drop, length-append, length-drop, get_or-append}
use lib.Seq.{drop-append_seam}
use lib.Dec.{eqb, ltb}
use borrow.Author.Tests.{lt-ltb, le-ltb, eqb-true}
use Rattle.bools.proofs.BoolLaws.{clash, or_left, or_right, or-false}
use Rattle.bools.proofs.OrderLaws.{lt-or-le}
use Rattle.bits.proofs.SetBits.{is_set-past}
use Rattle.sums.proofs.SearchLaws.{any_elim}
use Rattle.fields.specs.declared.fault.Fault.{Fault}
use Rattle.fields.specs.declared.fault.Fault.TheVariants.{Table}
use Rattle.fields.specs.Contents.{Contents}
use Rattle.frame.specs.Reading.{accepted, refused, read_sheet}
use Rattle.frame.proofs.AcceptedLaws.{accepted_sound}
use Rattle.frame.proofs.Stored.{read_cases, not_both_read, same_read}
use Rattle.day.specs.Day.{Day, day_of, place_in, load_of}
use Rattle.day.proofs.LoadLaws.{load_cong}
use Rattle.demand.specs.Demand.{SoundLong}
use Rattle.answers.specs.declared.answer.Answer.{Answer}
use Rattle.answers.specs.declared.answer.Answer.TheVariants.{Plan, Long, None, Fault as Faulty}
use Rattle.answers.specs.declared.answer.PlanAnswer.{PlanAnswer}
use Rattle.answers.specs.declared.answer.LongAnswer.{LongAnswer}
use Rattle.answers.specs.declared.answer.NoneAnswer.{NoneAnswer}
use Rattle.answers.specs.declared.answer.Filled.{Filled}
use Rattle.answers.specs.Answers.{one_of, set_of, Reply, fault_reply, is_plan, is_long, front, Answered}
use Rattle.algorithm.specs.Answer.{answer_to, short_tables, answer_for}
use Rattle.algorithm.specs.SoundDay.{AcceptedDay}
use Rattle.algorithm.proofs.SheetDay.{accepted_day}
use Rattle.argument.specs.Answers.{SoundPlan, SoundNone, SoundAnswer, plan_sound, long_sound, none_sound}
use Rattle.argument.specs.Answers.{WholeClaim}
use Rattle.argument.proofs.ShownLaws.{blocking_cong}
use Rattle.answers.proofs.SetLaws.{set_of-lt, is_set-set_of}
use Rattle.argument.proofs.Theorems.{whole_claim}
use Rattle.blocking.specs.Claim.{SheetRefused, TablesShort, Answerable, CanAnswer, OneCase}
use Rattle.blocking.specs.Claim.{Untouched, OneOfThree, a_plan, a_long, a_none, PlanInTables, in_set, NamedSet, PlannerClaim}

-- ── the three kinds of calls ──

module _ (s places loads : List ℕ) where
  some_case : SheetRefused s ⊎ (TablesShort s places loads ⊎ CanAnswer s places loads)
  some_case = elim (read_cases (read_sheet s)) [
    | inl faulty ↦ inl faulty
    | inr (c, e) ↦ elim (lt-or-le (length places) (length c.jobs)) [
      | inl p ↦ inr (inl (c, e, inl (omega arith)))
      | inr p ↦ elim (lt-or-le (length loads) c.head.benches) [
        | inl l ↦ inr (inl (c, e, inr (omega arith)))
        | inr l ↦ inr (inr (c, record { sheet_accepted = e; place_to_a_job = omega arith; load_to_a_bench = omega arith }))
      ]
    ]
  ]

  short_or_not : TablesShort s places loads → CanAnswer s places loads → ⊥
  short_or_not (c, e, short) (k, t) =
      let same = same_read e t.sheet_accepted in
      elim short [
        | inl l ↦ omega (arith, t.place_to_a_job, ap (λ (x : Contents). length x.jobs) same)
        | inr l ↦ omega (arith, t.load_to_a_bench, ap (λ (x : Contents). x.head.benches) same)
      ]

  pub one_case : OneCase (SheetRefused s) (TablesShort s places loads) (CanAnswer s places loads)
  one_case = record {
    some = some_case;
    not_first_second = λ (f, p) (c, q, short). not_both_read p q;
    not_first_third = λ (f, p) (c, t). not_both_read p t.sheet_accepted;
    not_second_third = short_or_not;
  }

-- ── the answer, by what the sheet is read as ──

answer_refused : (s : List ℕ) (np nl : ℕ) (f : Fault) → read_sheet s ≡ refused f → answer_for s np nl ≡ fault_reply f
unfolding answer_for
answer_refused s np nl f e = rw (e, answer_for)

module _ (c : Contents) (np nl : ℕ) where
  pub short_tested : (np < length c.jobs) ⊎ (nl < c.head.benches) → short_tables c np nl ≡ true
  short_tested short = elim short [
    | inl l ↦ or_left (ltb nl c.head.benches) (lt-ltb np (length c.jobs) l)
    | inr l ↦ or_right (ltb np (length c.jobs)) (lt-ltb nl c.head.benches l)
  ]

  pub room_tested : length c.jobs ≤ np → c.head.benches ≤ nl → short_tables c np nl ≡ false
  room_tested lp ll = or-false (le-ltb np (length c.jobs) lp) (le-ltb nl c.head.benches ll)

answer_short : (s : List ℕ) (np nl : ℕ) (c : Contents) → read_sheet s ≡ accepted c → (np < length c.jobs) ⊎ (nl < c.head.benches)
    → answer_for s np nl ≡ fault_reply (Table 0)
unfolding answer_for
answer_short s np nl c e short = rw (e, short_tested c np nl short, answer_for)

pub answer_given : (s : List ℕ) (np nl : ℕ) (c : Contents) → read_sheet s ≡ accepted c → length c.jobs ≤ np
    → c.head.benches ≤ nl
    → answer_for s np nl ≡ answer_to (day_of c)
unfolding answer_for
answer_given s np nl c e lp ll = rw (e, room_tested c np nl lp ll, answer_for)

-- ── the three answers, with the tables after them ──

module _ (d : Day) where
  three : {a : Reply} → SoundAnswer d a → OneOfThree a.answer
  three (plan_sound {p = p} sound) = a_plan p
  three (long_sound {j = j} sound) = a_long (record { job = j })
  three (none_sound {benches = benches} {moves = moves} sound) = a_none (record { set = set_of benches; moves = moves })

  -- An entry of a list does not change by what stands behind the list.
  pub plan_tables : (places loads : List ℕ) → d.jobs ≤ length places → d.benches ≤ length loads → (p : PlanAnswer) (ps ls : List ℕ)
      → SoundPlan d p ps ls → PlanInTables d p places loads (front ps places) (front ls loads)
  plan_tables places loads lp ll p ps ls sound =
      record {
        assignment = record { on_allowed = λ j l. rw (place j l) (sound.assignment.on_allowed j l) };
        its_loads = λ v l. load v l ∙ sound.its_loads v l ∙ sym (same_load v);
        within_bound = λ v l. rw (load v l) (sound.within_bound v l);
        greatest = λ v l. rw (load v l) (sound.greatest v l);
        one_of_them = let (v, l, e) = sound.one_of_them in (v, l, load v l ∙ e);
        fullest_bench = omega (arith, sound.fullest_bench);
        fullest_load = omega (arith, load p.fullest sound.fullest_bench, sound.fullest_load);
        lower_less = λ v l. omega (arith, load v (omega (arith, sound.fullest_bench)), sound.lower_less v l);
        few_moves = sound.few_moves;
        later_places_kept = rw (← sound.one_to_a_job) (drop-append_seam ps (drop (length ps) places));
        later_loads_kept = rw (← sound.one_to_a_bench) (drop-append_seam ls (drop (length ls) loads));
        as_many_places = omega (arith, length-append ps (drop (length ps) places), length-drop (length ps) places, sound.one_to_a_job);
        as_many_loads = omega (arith, length-append ls (drop (length ls) loads), length-drop (length ls) loads, sound.one_to_a_bench);
      }
    where
      place : (j : ℕ) → j < d.jobs → place_in (front ps places) j ≡ place_in ps j
      place j l = get_or-append ps (drop (length ps) places) 0 j (omega (arith, sound.one_to_a_job))

      load : (v : ℕ) → v < d.benches → get_or (front ls loads) v 0 ≡ get_or ls v 0
      load v l = get_or-append ls (drop (length ls) loads) 0 v (omega (arith, sound.one_to_a_bench))

      same_load : (v : ℕ) → load_of d (place_in (front ps places)) v ≡ load_of d (place_in ps) v
      same_load = load_cong d (place_in (front ps places)) (place_in ps) place

  module _ (day-ok : AcceptedDay d) (few : d.benches ≤ 64) where
    pub named_set : (benches : List ℕ) (moves : ℕ) → SoundNone d benches moves → NamedSet d (record { set = set_of benches; moves = moves })
    named_set benches moves n =
        record {
          of_64_bits = set_of-lt 0 benches n.rising (λ i l. omega arith) below;
          of_the_head = head-bench;
          blocking = blocking_cong d day-ok.allowed_below (one_of benches) (in_set (set_of benches)) (λ v l. sym (bit v (omega arith))) n.blocking;
          few_moves = n.few_moves;
        }
      where
        below : (i : ℕ) → i < length benches → get_or benches i 0 < 64
        below i l = omega (arith, n.of_the_day i l)

        bit : (v : ℕ) → v < 64 → in_set (set_of benches) v ≡ one_of benches v
        bit v l = is_set-set_of benches n.rising below v l

        bench-of-list : (v : ℕ) → one_of benches v ≡ true → v < d.benches
        bench-of-list v e = let (i, l, same) = any_elim (length benches) (λ i. eqb (get_or benches i 0) v) e in
            subst (λ (x : ℕ). x < d.benches) (eqb-true (get_or benches i 0) v same) (n.of_the_day i l)

        -- A number of 64 bits has no bench past 63.
        head-bench : (v : ℕ) → in_set (set_of benches) v ≡ true → v < d.benches
        head-bench v e = elim (lt-or-le v 64) [
          | inl l ↦ bench-of-list v (sym (bit v l) ∙ e)
          | inr far ↦ clash e (is_set-past 64 (set_of benches) v far)
        ]

  -- ── what an answer of the program says of the tables ──

  module _ (places loads : List ℕ) where
    plan_after : d.jobs ≤ length places → d.benches ≤ length loads → {a : Reply} → SoundAnswer d a
        → (p : PlanAnswer) → a.answer ≡ Plan p → PlanInTables d p places loads (front a.places places) (front a.loads loads)
    plan_after lp ll (plan_sound {p = x} {places = ps} {loads = ls} sound) p e =
        let same : x ≡ p = cc in
        rw (← same) (plan_tables places loads lp ll x ps ls sound)
    plan_after lp ll (long_sound sound) p e = clash {b = true} refl cc
    plan_after lp ll (none_sound sound) p e = clash {b = true} refl cc

    long_after : {a : Reply} → SoundAnswer d a → (l : LongAnswer) → a.answer ≡ Long l
        → SoundLong d l.job × Untouched places loads (front a.places places) (front a.loads loads)
    long_after (plan_sound sound) l e = clash {b = true} refl cc
    long_after (long_sound {j = j} sound) l e =
        let same : record { job = j } ≡ l = cc in
        (subst (λ (x : LongAnswer). SoundLong d x.job) same sound, record { same_places = refl; same_loads = refl })
    long_after (none_sound sound) l e = clash {b = true} refl cc

    none_after : AcceptedDay d → d.benches ≤ 64 → {a : Reply} → SoundAnswer d a → (n : NoneAnswer) → a.answer ≡ None n
        → NamedSet d n × Untouched places loads (front a.places places) (front a.loads loads)
    none_after day-ok few (plan_sound sound) n e = clash {b = true} refl cc
    none_after day-ok few (long_sound sound) n e = clash {b = true} refl cc
    none_after day-ok few (none_sound {benches = benches} {moves = moves} sound) n e =
        let same : record { set = set_of benches; moves = moves } ≡ n = cc in
        (subst (NamedSet d) same (named_set day-ok few benches moves sound), record { same_places = refl; same_loads = refl })

plan_given : (a : Answer) → is_plan a ≡ true → (p : PlanAnswer) × (a ≡ Plan p)
plan_given (Plan p) e = (p, refl)
plan_given (Long l) e = clash {b = false} e refl
plan_given (None n) e = clash {b = false} e refl
plan_given (Faulty f) e = clash {b = false} e refl

long_is : (a : Answer) → is_long a ≡ true → (l : LongAnswer) × (a ≡ Long l)
long_is (Plan p) e = clash {b = false} e refl
long_is (Long l) e = (l, refl)
long_is (None n) e = clash {b = false} e refl
long_is (Faulty f) e = clash {b = false} e refl

-- ── the claim ──

module _ (s places loads : List ℕ) where
  abbrev reply : Reply
  reply = answer_for s (length places) (length loads)

  fault-after : (f : Fault) → reply ≡ fault_reply f
      → (reply.answer ≡ Faulty f) × Untouched places loads (front reply.places places) (front reply.loads loads)
  fault-after f e = (
    ap (λ (a : Reply). a.answer) e,
    record { same_places = ap (λ (a : Reply). front a.places places) e; same_loads = ap (λ (a : Reply). front a.loads loads) e },
  )

  module _ (c : Contents) (t : Answerable s places loads c) where
    day_accepted : AcceptedDay (day_of c)
    day_accepted = accepted_day c (accepted_sound s c t.sheet_accepted)

    few_benches : c.head.benches ≤ 64
    few_benches = (accepted_sound s c t.sheet_accepted).head.at_most_64_benches

    whole : WholeClaim (day_of c) reply
    whole =
        subst (WholeClaim (day_of c)) (sym (answer_given s (length places) (length loads) c t.sheet_accepted t.place_to_a_job t.load_to_a_bench))
        (whole_claim (day_of c) day_accepted)

  pub planner_claim : PlannerClaim s places loads reply.answer (front reply.places places) (front reply.loads loads)
  planner_claim =
      record {
        one_case = one_case s places loads;
        sheet_refused = λ f e. fault-after f (answer_refused s (length places) (length loads) f e);
        tables_short = λ c e short. fault-after (Table 0) (answer_short s (length places) (length loads) c e short);
        one_of_three = λ c t. three (day_of c) (whole c t).sound;
        plan_right = λ c t. plan_after (day_of c) places loads t.place_to_a_job t.load_to_a_bench (whole c t).sound;
        long_right = λ c t. long_after (day_of c) places loads (whole c t).sound;
        long_given = λ c t j l. long_is reply.answer ((whole c t).long_given j l);
        plan_fits = λ c t p e. (whole c t).else_fits (ap is_long e);
        none_fits = λ c t n e. (whole c t).else_fits (ap is_long e);
        none_right = λ c t. none_after (day_of c) places loads (day_accepted c t) (few_benches c t) (whole c t).sound;
        rival_planned = λ c t a x keeps. plan_given reply.answer ((whole c t).rival_planned a x keeps);
        over_after_long = λ c t l e. (whole c t).else_over (ap is_plan e);
        over_after_none = λ c t n e. (whole c t).else_over (ap is_plan e);
      }

  pub answered_claim : (r : Filled) (places' loads' : List ℕ) → Answered reply r places loads places' loads'
      → PlannerClaim s places loads r.answer places' loads'
  answered_claim r places' loads' called = rw (called.answer, called.new_places, called.new_loads) planner_claim

pub no_fault : {r : Answer} {f : Fault} → OneOfThree r → r ≡ Faulty f → ⊥
no_fault (a_plan p) e = clash {b = true} refl cc
no_fault (a_long l) e = clash {b = true} refl cc
no_fault (a_none n) e = clash {b = true} refl cc

pub answered_room : {s places loads : List ℕ} {r : Answer} {places' loads' : List ℕ} → PlannerClaim s places loads r places' loads'
    → OneOfThree r → CanAnswer s places loads
answered_room claim three = elim claim.one_case.some [
  | inl (f, e) ↦ absurd (no_fault three (claim.sheet_refused f e).0)
  | inr (inl (c, e, short)) ↦ absurd (no_fault three (claim.tables_short c e short).0)
  | inr (inr can) ↦ can
]
