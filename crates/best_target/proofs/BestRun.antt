-- From the bytes of a sheet to the target found.
--     refusal f               a fault, with nothing written
--     best_refused, best_read     the reply by whether the sheet is read, and by the test for fault 13
--     refusal-answered        a fault is answered, and both tables are as before
--     search_lent             the arrays filled with a sheet hold its day, whatever target it is given
--     plan_places             the places found, as they are lent to be written
--     found_answered          the target found, once its plan is in the tables
--     read_answered           what holds of every sheet that is read holds of this one
use Prim.Native.Nat.{ℕ}
use native.Mathlib.Omega.{arith}
use mathlib.Core.Path.{◌≡◌, refl, sym, ap, subst, ◌∙◌}
use mathlib.Core.Bool.{Bool, cond}
use mathlib.Core.List.{List}
use lib.ListN.{get_or, replicate}
use Rattle.fields.specs.Contents.{Contents}
use Rattle.fields.specs.declared.sheet.Sheet.{Sheet}
use Rattle.fields.specs.declared.sheet.Head.{Head}
use Rattle.fields.specs.declared.fault.Fault.{Fault}
use Rattle.fields.specs.declared.fault.Fault.TheVariants.{Table}
use Rattle.frame.specs.Reading.{accepted, read_sheet, stored, sheet_of}
use Rattle.std.specs.Prelude.{Result, Ok, Err}
use Rattle.frame.proofs.AcceptedLaws.{accepted_sound}
use Rattle.frame.proofs.Stored.{verdict_refused, verdict_accepted}
use Rattle.sums.proofs.TableLaws.{length-table}
use Rattle.day.specs.Day.{Day, day_of, place_in, load_of, with_target}
use Rattle.answers.specs.declared.answer.PlanAnswer.{PlanAnswer}
use Rattle.answers.specs.declared.best.BestAnswer.TheVariants.{Best, Fault as Faulty}
use Rattle.answers.specs.declared.best.BestFilled.{BestFilled}
use Rattle.answers.specs.BestAnswers.{plan_in, BestReply, best_reply, best_fault, BestAnswered}
use Rattle.algorithm.specs.Run.{run}
use Rattle.algorithm.specs.Answer.{plan_shown, answer_to, short_tables}
use Rattle.algorithm.specs.Best.{best_target, targets_run, best_to, best_for}
use Rattle.algorithm.proofs.BestLaws.{best_within}
use Rattle.algorithm.proofs.SheetDay.{accepted_at, start_fits}
use Rattle.argument.proofs.BestTheorems.{start_gives}
use Rattle.arrays.specs.Arrays.{filled}
use Rattle.decisions.specs.Decision.{places_in}
use Rattle.searching.specs.declared.kept.Found.{Found}
use Rattle.searching.specs.Searching.{LentSearch, Finds}
use Rattle.planning.specs.Places.{Places, PlanWritten}
use Rattle.planning.proofs.SheetRun.{plan-shown, day_lent_at}

abbrev pub refusal : Fault → BestFilled
refusal f = record { answer = Faulty f; places = 0; loads = 0 }

-- ── faults ──

module _ (s : List ℕ) (np nl : ℕ) where
  pub best_refused : {x : Result Sheet Fault} {f : Fault} → x ≡ stored (read_sheet s) → x ≡ Err f
      → best_for s np nl ≡ best_fault f
  unfolding best_for
  best_refused e a = rw (verdict_refused (read_sheet s) e a, best_for)

  pub best_read : (c : Contents) → read_sheet s ≡ accepted c → {short : Bool} → short_tables c np nl ≡ short
      → best_for s np nl ≡ cond short (best_fault (Table 0)) (best_to (day_of c))
  unfolding best_for
  best_read c e tested = rw (e, tested, best_for)

pub refusal-answered : {a : BestReply} {f : Fault} {r : BestFilled} → a ≡ best_fault f → r ≡ refusal f
    → (places loads : List ℕ) → BestAnswered a r places loads places loads
refusal-answered e told places loads =
    rw (e, told)
    (record { answer = refl; places_written = refl; loads_written = refl; new_places = refl; new_loads = refl })

-- ── the search on a sheet ──

module _ (s : List ℕ) (c : Contents) (x : Sheet) (read : read_sheet s ≡ accepted c) (same : x ≡ sheet_of c) where
  pub search_lent : {minutes allowed booked : List ℕ}
      → minutes ≡ filled x.count (λ i. get_or x.minutes i 0) (replicate 512 0)
      → allowed ≡ filled x.count (λ i. get_or x.allowed i 0) (replicate 512 0)
      → booked ≡ filled x.head.benches (λ i. get_or x.booked i 0) (replicate 64 0)
      → LentSearch (day_of c) x.head x.count minutes allowed booked
  search_lent em ea eb =
      let sound = accepted_sound s c read in
      record {
        start_fits = start_fits c sound;
        start_planned = start_gives (day_of c) (accepted_at c sound);
        at_any = day_lent_at s c x read same em ea eb;
      }

-- ── what is found ──

module _ (d : Day) (found : Found) (F : Finds d found) where
  abbrev day : Day
  day = with_target d (best_target d)

  abbrev pub places_found : List ℕ
  places_found = places_in (run day)

  shown_found : answer_to day ≡ plan_shown day places_found found.moves
  shown_found = plan-shown day (run day) (record { moves = found.moves }) F.planned.decision

  pub plan_places : (h : Head) (jobs : ℕ) (minutes allowed booked : List ℕ)
      → LentSearch d h jobs minutes allowed booked
      → Places day jobs h.benches minutes booked found.places places_found
  plan_places h jobs minutes allowed booked L =
      let lent = L.at_any (best_target d) (omega (arith, best_within d, L.start_fits)) in
      record {
        allowed = allowed;
        fields = lent.fields;
        benches_are = lent.benches_are;
        booked_are = lent.booked_are;
        one_to_a_job = F.planned.one_to_a_job _ refl;
        places_are = F.planned.places;
      }

  pub found_answered : {jobs benches : ℕ} → jobs ≡ d.jobs → benches ≡ d.benches
      → {r : PlanAnswer} {places loads places' loads' : List ℕ}
      → PlanWritten (plan_shown day places_found found.moves) r places loads places' loads'
      → BestAnswered (best_to d)
      (record {
        answer = Best (record { target = found.target; plan = r; runs = found.runs });
        places = jobs;
        loads = benches;
      })
      places loads places' loads'
  found_answered {jobs} {benches} ej eb {r} {places} {loads} {places'} {loads'} W =
      let filled : BestFilled = record {
        answer = Best (record { target = found.target; plan = r; runs = found.runs });
        places = jobs;
        loads = benches;
      } in
      let reply : BestReply = best_reply (best_target d) (targets_run d) (plan_shown day places_found found.moves) in
      let its-plan : r ≡ plan_in (plan_shown day places_found found.moves).answer = ap plan_in W.numbers in
      let told : filled.answer ≡ reply.answer = rw (F.target_is, F.runs_are, its-plan) in
      subst (λ (a : BestReply). BestAnswered a filled places loads places' loads')
      (ap (best_reply (best_target d) (targets_run d)) (sym shown_found))
      (record {
        answer = told;
        places_written = ej ∙ sym (F.planned.one_to_a_job _ refl);
        loads_written = eb ∙ sym (length-table d.benches (load_of d (place_in places_found)));
        new_places = W.new_places;
        new_loads = W.new_loads;
      })

-- ── a sheet that is read ──

module _ (s : List ℕ) (np nl : ℕ) (places loads : List ℕ) where
  pub read_answered : {x : Result Sheet Fault} {sheet : Sheet} {r : BestFilled} {places' loads' : List ℕ}
      → x ≡ stored (read_sheet s) → x ≡ Ok sheet
      → ((bytes : List ℕ) → (c : Contents) → read_sheet bytes ≡ accepted c → sheet ≡ sheet_of c
      → BestAnswered (best_for bytes np nl) r places loads places' loads')
      → BestAnswered (best_for s np nl) r places loads places' loads'
  read_answered e a told =
      let (c, read, same) = verdict_accepted (read_sheet s) e a in
      told s c read same
