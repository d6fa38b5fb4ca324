-- What is promised of the best target, proved of the reply to any bytes: specs/BestClaim has the claim, algorithm's
-- specs/Best the reply.
--     best_given-reply    an accepted sheet and tables with room: the reply is that to the sheet's day
--     best_claim          the claim holds of the reply to any bytes and any two tables, and of the tables after it
--     answered_claim      so it holds of whatever call is answered so: `BestAnswered` is what the contract ensures
--     planned_alike       the reply is that of the planner to the sheet with the target found typed in
use Prim.Native.Nat.{ℕ, ◌≤◌}
use mathlib.Core.Path.{◌≡◌, sym, ap, subst, ◌∙◌}
use mathlib.Core.List.{List}
use lib.ListN.{length}
use Rattle.fields.specs.Contents.{Contents}
use Rattle.fields.specs.declared.fault.Fault.{Fault}
use Rattle.fields.specs.declared.fault.Fault.TheVariants.{Table}
use Rattle.frame.specs.Reading.{accepted, refused, read_sheet}
use Rattle.frame.specs.Sound.{SoundSheet}
use Rattle.frame.proofs.AcceptedLaws.{accepted_sound}
use Rattle.day.specs.Day.{Day, day_of, with_target}
use Rattle.answers.specs.declared.best.BestAnswer.TheVariants.{Best, Fault as Faulty}
use Rattle.answers.specs.declared.best.BestPlan.{BestPlan}
use Rattle.answers.specs.declared.best.BestFilled.{BestFilled}
use Rattle.answers.specs.Answers.{front}
use Rattle.answers.specs.BestAnswers.{plan_in, BestReply, best_reply, best_fault, BestAnswered}
use Rattle.algorithm.specs.Answer.{answer_to, answer_for}
use Rattle.algorithm.specs.Best.{best_target, targets_run, best_to, best_for}
use Rattle.algorithm.specs.SoundDay.{AcceptedDay}
use Rattle.algorithm.proofs.SheetDay.{accepted_at, start_fits}
use Rattle.argument.specs.Best.{Vouched}
use Rattle.argument.proofs.BestTheorems.{start_planned, best_sound, vouched}
use Rattle.blocking.specs.Claim.{Answerable, Untouched, PlanInTables}
use Rattle.blocking.proofs.Claim.{one_case, short_tested, room_tested, answer_given, plan_tables}
use Rattle.best_target.specs.BestClaim.{BestClaim, retargeted}
use Rattle.best_target.proofs.BestRun.{best_read}

best_refused : (s : List ℕ) (np nl : ℕ) (f : Fault) → read_sheet s ≡ refused f → best_for s np nl ≡ best_fault f
unfolding best_for
best_refused s np nl f e = rw (e, best_for)

module _ (s places loads : List ℕ) where
  abbrev reply : BestReply
  reply = best_for s (length places) (length loads)

  fault-after : (f : Fault) → reply ≡ best_fault f
      → (reply.answer ≡ Faulty f) × Untouched places loads (front reply.places places) (front reply.loads loads)
  fault-after f e = (
    ap (λ (a : BestReply). a.answer) e,
    record {
      same_places = ap (λ (a : BestReply). front a.places places) e;
      same_loads = ap (λ (a : BestReply). front a.loads loads) e;
    },
  )

  module _ (c : Contents) (t : Answerable s places loads c) where
    abbrev d : Day
    d = day_of c

    abbrev found : BestPlan
    found =
        record {
          target = best_target d;
          plan = plan_in (answer_to (with_target d (best_target d))).answer;
          runs = targets_run d;
        }

    sound : SoundSheet c
    sound = accepted_sound s c t.sheet_accepted

    any_target : (x : ℕ) → AcceptedDay (with_target d x)
    any_target = accepted_at c sound

    pub best_given-reply : reply ≡ best_to d
    best_given-reply =
        best_read s (length places) (length loads) c t.sheet_accepted
        (room_tested c (length places) (length loads) t.place_to_a_job t.load_to_a_bench)

    given : reply.answer ≡ Best found
    given = ap (λ (a : BestReply). a.answer) best_given-reply

    -- There is one such answer.
    found-is : (b : BestPlan) → reply.answer ≡ Best b → found ≡ b
    found-is b e = let same : Best found ≡ Best b = sym given ∙ e in cc

    in_tables : PlanInTables (with_target d (best_target d)) found.plan places loads
        (front reply.places places) (front reply.loads loads)
    in_tables =
        subst
        (λ (a : BestReply). PlanInTables (with_target d (best_target d)) found.plan places loads
        (front a.places places) (front a.loads loads))
        (sym best_given-reply)
        (plan_tables (with_target d (best_target d)) places loads t.place_to_a_job t.load_to_a_bench found.plan
        _ _ (best_sound d any_target))

  pub best_claim : BestClaim s places loads reply.answer (front reply.places places) (front reply.loads loads)
  best_claim =
      record {
        one_case = one_case s places loads;
        sheet_refused = λ f e. fault-after f (best_refused s (length places) (length loads) f e);
        tables_short = λ c e short.
            fault-after (Table 0)
            (best_read s (length places) (length loads) c e (short_tested c (length places) (length loads) short));
        start_planned = λ c t. start_planned (day_of c) (any_target c t);
        best_given = λ c t. (found c t, given c t);
        vouched = λ c t b e.
            subst (Vouched (day_of c)) (found-is c t b e)
            (vouched (day_of c) (any_target c t) (start_fits c (sound c t)));
        plan_right = λ c t b e.
            subst
            (λ (x : BestPlan). PlanInTables (with_target (day_of c) x.target) x.plan places loads
            (front reply.places places) (front reply.loads loads))
            (found-is c t b e) (in_tables c t);
      }

  pub answered_claim : (r : BestFilled) (places' loads' : List ℕ) → BestAnswered reply r places loads places' loads'
      → BestClaim s places loads r.answer places' loads'
  answered_claim r places' loads' called = rw (called.answer, called.new_places, called.new_loads) best_claim

-- ── the planner on the target found ──

module _ (s s' : List ℕ) (np nl : ℕ) (c : Contents) where
  pub planned_alike : read_sheet s ≡ accepted c → read_sheet s' ≡ accepted (retargeted c (best_target (day_of c)))
      → length c.jobs ≤ np → c.head.benches ≤ nl
      → best_for s np nl ≡ best_reply (best_target (day_of c)) (targets_run (day_of c)) (answer_for s' np nl)
  planned_alike e e' lp ll =
      best_read s np nl c e (room_tested c np nl lp ll)
      ∙ ap (best_reply (best_target (day_of c)) (targets_run (day_of c)))
      (sym (answer_given s' np nl (retargeted c (best_target (day_of c))) e' lp ll))
