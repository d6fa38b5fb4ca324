-- What a caller of planning reads: the entries of the tables are the answer's numbers, none of them cut to its 8 bytes.
--     ReplyFits, reply-fits     the numbers of every reply have at most 8 bytes
--     plan_fits                 so have those of a right plan, whatever target its day is given
--     entries_read              so after a call the entries of the three tables are the reply's places and loads, and
--                               the answer's three numbers
--     is_fault                  the answer is a fault
--     plan_word_value           the word of a plan, of long and of none is below 2 ^ 32
--     plan_word_fault           the word of a fault has its number and its place
use Prim.Native.Nat.{ℕ, zero, suc, ◌*◌, ◌/◌, ◌%◌, ◌^◌, ◌≤◌, ◌<◌}
use native.Mathlib.Nat.{le_trans, mul-le-mul_left}
use native.Mathlib.Omega.{arith}
use mathlib.Core.Path.{◌≡◌, refl, sym, ap, subst, ◌∙◌}
use mathlib.Core.Logic.{inl, inr}
use mathlib.Core.Bool.{Bool, true, false}
use mathlib.Core.List.{List, [], ◌∷◌}
use lib.ListN.{length, get_or}
use lib.Dec.{eqb, ltb}
use borrow.Author.Tests.{ltb-true}
use Rattle.bools.proofs.BoolLaws.{clash, and_left}
use Rattle.sums.specs.Sum.{on, count}
use Rattle.sums.proofs.SumLaws.{on-le, sum_bound}
use Rattle.sums.proofs.CountLaws.{count-le}
use Rattle.fields.specs.declared.fault.Fault.{Fault}
use Rattle.fields.specs.Contents.{Contents}
use Rattle.fields.specs.Format.{allows as allows_bench}
use Rattle.fields.specs.Numbers.{number_of, place_of}
use Rattle.fields.specs.Tests.{job_at}
use Rattle.frame.specs.Sound.{SoundSheet}
use Rattle.day.specs.Day.{day_of, pebble, place_in, move_bound, with_target}
use Rattle.answers.specs.declared.answer.Answer.{Answer}
use Rattle.answers.specs.declared.answer.Answer.TheVariants.{Plan, Long, None, Fault as Faulty}
use Rattle.answers.specs.declared.answer.PlanAnswer.{PlanAnswer}
use Rattle.answers.specs.Answers.{Reply, plan_reply}
use Rattle.argument.specs.Answers.{SoundPlan, SoundAnswer, plan_sound, long_sound, none_sound}
use Rattle.answers.proofs.SetLaws.{set_of-lt}
use Rattle.tables.specs.Tables.{entry_of}
use Rattle.tables.proofs.EntryLaws.{Fit, entry_put}
use Rattle.tables.proofs.WordLaws.{fault_word_number, fault_word_place}
use Rattle.door.specs.PlanDoor.{door_answer, plan_word, answer_numbers, Called}
use Rattle.door.proofs.AnswerLaws.{fault_or_room}

-- ── the numbers of a reply ──

three_fit : {a b e : ℕ} → a < 2 ^ 64 → b < 2 ^ 64 → e < 2 ^ 64 → Fit (a ∷ b ∷ e ∷ [])
three_fit p q r zero l = p
three_fit p q r (suc zero) l = q
three_fit p q r (suc (suc zero)) l = r
three_fit p q r (suc (suc (suc i))) l = absurd (omega arith)

none_fit : Fit []
none_fit i l = absurd (omega arith)

pub record ReplyFits (a : Reply) : Type 0 where
  pub places_fit : Fit a.places
  pub loads_fit : Fit a.loads
  pub numbers_fit : Fit (answer_numbers a.answer)

module _ (c : Contents) (sound : SoundSheet c) where
  -- Whatever target the day is given.
  module _ (t : ℕ) where
    moves_fit : (moves : ℕ) → moves ≤ move_bound (with_target (day_of c) t) → moves < 2 ^ 64
    moves_fit moves few =
        let light : ℕ → Bool = pebble (with_target (day_of c) t) in
        let pebbles : ℕ = count (length c.jobs) light in
        let one : pebbles ≤ 512 = le_trans (count-le (length c.jobs) light) sound.at_most_512_jobs in
        let two : c.head.benches * pebbles ≤ c.head.benches * 512 = mul-le-mul_left c.head.benches one in
        omega (arith, sound.head.at_most_64_benches)

    module _ (p : PlanAnswer) (ps ls : List ℕ) (right : SoundPlan (with_target (day_of c) t) p ps ls) where
      -- A bench of the head, and there are at most 64.
      place_fits : Fit ps
      place_fits j l =
          let here = right.assignment.on_allowed j (omega (arith, right.one_to_a_job)) in
          let below : get_or ps j 0 < c.head.benches =
          ltb-true (get_or ps j 0) c.head.benches
          (and_left (ltb (get_or ps j 0) c.head.benches) (allows_bench (job_at c.jobs j) (get_or ps j 0)) here) in
          omega (arith, sound.head.at_most_64_benches)

      -- Each job has fewer than 2 ^ 20 minutes, and there are at most 512; a booking has fewer than 2 ^ 20 too.
      load_fits : Fit ls
      load_fits v l =
          let there : ℕ → ℕ = λ j. on (eqb (place_in ps j) v) (job_at c.jobs j).minutes in
          let short : (j : ℕ) → j < length c.jobs → there j ≤ 1048576 =
          λ j h.
          omega (arith, on-le (eqb (place_in ps j) v) (job_at c.jobs j).minutes, (sound.jobs j h).minutes_fit) in
          let placed = sum_bound (length c.jobs) 1048576 there short in
          omega (
            arith,
            right.its_loads v (omega (arith, right.one_to_a_bench)),
            sound.at_most_512_jobs,
            sound.bookings.booked_fit v,
          )

      largest_fits : p.largest < 2 ^ 64
      largest_fits =
          let (v, l, e) = right.one_of_them in
          omega (arith, e, load_fits v (omega (arith, right.one_to_a_bench)))

      pub plan_fits : ReplyFits (plan_reply p ps ls)
      plan_fits = record {
        places_fit = place_fits;
        loads_fit = load_fits;
        numbers_fit =
            three_fit largest_fits (moves_fit p.moves right.few_moves)
            (omega (arith, right.fullest_bench, sound.head.at_most_64_benches));
      }

  sound_fits : {a : Reply} → SoundAnswer (day_of c) a → ReplyFits a
  sound_fits (plan_sound {p = p} {places = ps} {loads = ls} right) = plan_fits c.head.target p ps ls right
  sound_fits (long_sound {j = j} right) =
      let job = right.is_long.is_job in
      let numbers : Fit (j ∷ 0 ∷ 0 ∷ []) =
      three_fit (omega (arith, sound.at_most_512_jobs)) (omega arith) (omega arith) in
      record { places_fit = none_fit; loads_fit = none_fit; numbers_fit = numbers }
  sound_fits (none_sound {benches = bs} {moves = moves} right) =
      let below : (i : ℕ) → i < length bs → get_or bs i 0 < 64 =
      λ i l. omega (arith, right.of_the_day i l, sound.head.at_most_64_benches) in
      let set-fits = set_of-lt 0 bs right.rising (λ i l. omega arith) below in
      let numbers = three_fit {e = 0} set-fits (moves_fit c.head.target moves right.few_moves) (omega arith) in
      record { places_fit = none_fit; loads_fit = none_fit; numbers_fit = numbers }

-- ── the three answers and the faults ──

abbrev pub is_fault : Answer → Bool
is_fault (Plan p) = false
is_fault (Long l) = false
is_fault (None n) = false
is_fault (Faulty f) = true

no_fault : (c : Contents) {a : Reply} → SoundAnswer (day_of c) a → is_fault a.answer ≡ false
no_fault c (plan_sound p) = refl
no_fault c (long_sound l) = refl
no_fault c (none_sound n) = refl

module _ (s : List ℕ) (np nl na : ℕ) where
  abbrev reply : Reply
  reply = door_answer s np nl na

  pub reply-fits : ReplyFits (door_answer s np nl na)
  reply-fits = elim (fault_or_room s np nl na) [
    | inl f ↦ rw f.replies (record { places_fit = none_fit; loads_fit = none_fit; numbers_fit = none_fit })
    | inr r ↦ sound_fits r.room.contents r.room.sound_sheet r.sound_answer
  ]

  -- ── what a caller reads ──

  pub entries_read : {r : ℕ} (places loads numbers : List ℕ) {places' loads' numbers' : List ℕ}
      → Called reply r places loads numbers places' loads' numbers'
      → ((j : ℕ) → j < length reply.places → entry_of places' j ≡ get_or reply.places j 0)
      × ((b : ℕ) → b < length reply.loads → entry_of loads' b ≡ get_or reply.loads b 0)
      × ((k : ℕ) → k < length (answer_numbers reply.answer)
      → entry_of numbers' k ≡ get_or (answer_numbers reply.answer) k 0)
  entries_read places loads numbers called =
      let values : List ℕ = answer_numbers reply.answer in (
        λ j l. ap (entry j) called.new_places ∙ entry_put reply.places places j reply-fits.places_fit l,
        λ b l. ap (entry b) called.new_loads ∙ entry_put reply.loads loads b reply-fits.loads_fit l,
        λ k l. ap (entry k) called.new_numbers ∙ entry_put values numbers k reply-fits.numbers_fit l,
      )
    where
      entry : ℕ → List ℕ → ℕ
      entry n t = entry_of t n

  same_fault : {f g : Fault} → Faulty g ≡ Faulty f → g ≡ f
  same_fault e = cc

  fault_place : (f : Fault) → reply.answer ≡ Faulty f → place_of f ≤ 65536
  fault_place f e = elim (fault_or_room s np nl na) [
    | inl g ↦
        let same = same_fault (sym (ap (λ (a : Reply). a.answer) g.replies) ∙ e) in
        subst (λ (x : Fault). place_of x ≤ 65536) same g.near
    | inr r ↦ clash (ap is_fault e) (no_fault r.room.contents r.sound_answer)
  ]

  pub plan_word_fault : (f : Fault) → reply.answer ≡ Faulty f
      → (plan_word reply.answer / 2 ^ 32 ≡ number_of f) × (plan_word reply.answer % 2 ^ 32 ≡ place_of f)
  plan_word_fault f e = rw e (fault_word_number f, fault_word_place f (omega (arith, fault_place f e)))

pub plan_word_value : (a : Answer) → is_fault a ≡ false → plan_word a < 2 ^ 32
plan_word_value (Plan p) e = omega arith
plan_word_value (Long l) e = omega arith
plan_word_value (None n) e = omega arith
plan_word_value (Faulty f) e = clash {b = true} refl e
