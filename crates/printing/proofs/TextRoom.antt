-- Room for the text of any sheet. Its numbers are small: those of a right answer to the day of sound contents, whatever
-- target of 30 bits it is given.
--     text_of a, best_text_of a      the text of a reply
--     text_fits, best_text_fits     that of any sheet fits 32,768 bytes, of planning and of the best target
use Prim.Native.Nat.{ℕ, ◌+◌, ◌*◌, ◌^◌, ◌≤◌, ◌<◌}
use native.Mathlib.Omega.{arith}
use native.Mathlib.Nat.{mul-le-mul_right}
use mathlib.Core.Path.{◌≡◌, subst}
use mathlib.Core.Bool.{true}
use mathlib.Core.List.{List, []}
use lib.ListN.{length, get_or}
use borrow.Author.Tests.{leb-true}
use Rattle.sums.specs.Sum.{count}
use Rattle.sums.proofs.CountLaws.{count-le}
use Rattle.fields.specs.Numbers.{place_of}
use Rattle.fields.proofs.NumberLaws.{number_small}
use Rattle.fields.specs.declared.fault.Fault.{Fault}
use Rattle.fields.specs.Contents.{Contents}
use Rattle.frame.specs.Sound.{SoundSheet}
use Rattle.day.specs.Day.{Day, day_of, pebble, scale, bound, within_bound, move_bound, with_target}
use Rattle.answers.specs.declared.answer.Answer.TheVariants.{Plan, Fault as Faulty}
use Rattle.answers.specs.declared.answer.PlanAnswer.{PlanAnswer}
use Rattle.answers.specs.Answers.{Reply}
use Rattle.answers.specs.BestAnswers.{BestReply}
use Rattle.algorithm.specs.Answer.{answer_for}
use Rattle.algorithm.specs.Best.{best_target, best_to, best_for}
use Rattle.algorithm.proofs.SheetDay.{accepted_at, accepted_day, start_fits}
use Rattle.algorithm.proofs.BestLaws.{best_within, few_runs}
use Rattle.argument.specs.Answers.{SoundPlan, SoundAnswer, plan_sound, long_sound, none_sound}
use Rattle.argument.proofs.Theorems.{whole_claim}
use Rattle.argument.proofs.BestTheorems.{best_sound}
use Rattle.lines.specs.Lines.{lines_of}
use Rattle.lines.specs.BestLines.{best_lines_of}
use Rattle.lines.proofs.TextSize.{Narrow, text_size, best_text_size}
use Rattle.printing.proofs.SheetReplies.{same_fault, to_day, replies}

-- ── small numbers ──

module _ (c : Contents) (S : SoundSheet c) (t : ℕ) (thirty-bits : t < 2 ^ 30) where
  abbrev day : Day
  day = with_target (day_of c) t

  moves_small : (moves : ℕ) → moves ≤ move_bound day → moves < 10 ^ 20
  moves_small moves l =
      omega (
        arith,
        count-le day.jobs (pebble day),
        S.at_most_512_jobs,
        mul-le-mul_right (count day.jobs (pebble day)) S.head.at_most_64_benches,
      )

  -- 3q × load ≤ (5q + p) × T, with q at least 1, and p and q below 128.
  load_small : (load : ℕ) → within_bound day load ≡ true → load < 10 ^ 20
  load_small load w =
      let head = S.head in
      let few : 5 * c.head.q + c.head.p ≤ 768 = omega (arith, head.p_fits, head.q_fits) in
      let some : 1 ≤ 3 * c.head.q = omega (arith, head.q_positive) in
      let kept : scale day * load ≤ bound day = leb-true _ _ w in
      omega (arith, kept, mul-le-mul_right load some, mul-le-mul_right t few)

  module _ {p : PlanAnswer} {places loads : List ℕ} (plan : SoundPlan day p places loads) where
    places_small : (j : ℕ) → j < length places → get_or places j 0 < 10 ^ 20
    places_small j l =
        let on-allowed = plan.assignment.on_allowed j (omega (arith, plan.one_to_a_job)) in
        let below = (accepted_at c S t).allowed_below j (get_or places j 0) on-allowed in
        omega (arith, below, S.head.at_most_64_benches)

    few_places : length places ≤ 512
    few_places = omega (arith, plan.one_to_a_job, S.at_most_512_jobs)

    plan_narrow : Narrow (Plan p)
    plan_narrow =
        let (v, l, e) = plan.one_of_them in (
          subst (λ (n : ℕ). n < 10 ^ 20) e (load_small (get_or loads v 0) (plan.within_bound v l)),
          moves_small p.moves plan.few_moves,
          omega (arith, plan.fullest_bench, S.head.at_most_64_benches),
        )

-- ── the text of a reply ──

abbrev pub text_of : Reply → List ℕ
text_of a = lines_of a.answer a.places

abbrev pub best_text_of : BestReply → List ℕ
best_text_of a = best_lines_of a.answer a.places

-- A table of no places.
none_wide : (j : ℕ) → j < 0 → get_or {A = ℕ} [] j 0 < 10 ^ 20
none_wide j l = absurd (omega arith)

answer_fits : (c : Contents) → SoundSheet c → {a : Reply} → SoundAnswer (day_of c) a → length (text_of a) ≤ 32000
answer_fits c S (plan_sound {places = places} p) =
    let t = c.head.target in
    let small = S.head.target_fits in
    text_size _ places (plan_narrow c S t small p) (few_places c S t small p) (places_small c S t small p)
answer_fits c S (long_sound l) =
    text_size _ [] (omega (arith, l.is_long.is_job, S.at_most_512_jobs)) (omega arith) none_wide
answer_fits c S (none_sound n) =
    text_size _ [] (moves_small c S c.head.target S.head.target_fits _ n.few_moves) (omega arith) none_wide

fault_narrow : (f : Fault) → place_of f ≤ 65536 → Narrow (Faulty f)
fault_narrow f small = (omega (arith, number_small f), omega arith)

pub text_fits : (s : List ℕ) (np nl : ℕ) → length (text_of (answer_for s np nl)) ≤ 32768
text_fits s np nl = elim (replies s np nl) [
  | same_fault f small e g ↦
      rw e (omega (arith, text_size (Faulty f) [] (fault_narrow f small) (omega arith) none_wide))
  | to_day c S e g ↦
      rw e (omega (arith, answer_fits c S (whole_claim (day_of c) (accepted_day c S)).sound))
]

best_fits : (c : Contents) → SoundSheet c → length (best_text_of (best_to (day_of c))) ≤ 32768
best_fits c S =
    let d : Day = day_of c in
    let start = start_fits c S in
    let small : best_target d < 2 ^ 30 = omega (arith, best_within d) in
    let plan = best_sound d (accepted_at c S) in
    best_text_size _ _
    (omega arith, omega (arith, few_runs d start), plan_narrow c S (best_target d) small plan)
    (few_places c S (best_target d) small plan) (places_small c S (best_target d) small plan)

pub best_text_fits : (s : List ℕ) (np nl : ℕ) → length (best_text_of (best_for s np nl)) ≤ 32768
best_text_fits s np nl = elim (replies s np nl) [
  | same_fault f small e g ↦ rw g (best_text_size _ [] (fault_narrow f small) (omega arith) none_wide)
  | to_day c S e g ↦ rw g (best_fits c S)
]
