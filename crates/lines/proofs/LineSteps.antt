-- What each step of the writing of lines puts.
--     take_more               one byte more of a string
--     spaced-append           words behind spaces, and more of them
--     line_word, line-pair    a word before a line; a line of two words
--     jobs_none, jobs_more    the line of one job more
--     benches_none, bench_in, bench_out     one bench more, in the set and not in it
--     plan_put, long_put, none_put, fault_put     the lines of each answer
--     fault_alone             those of a fault, which are the same for any places
--     text_put                the text of an answer
use Prim.Native.Nat.{ℕ, ◌+◌, ◌-◌, ◌/◌, ◌%◌, ◌^◌, ◌<◌}
use native.Mathlib.Numerals.{add-one}
use mathlib.Core.Path.{◌≡◌, refl, sym, ap, ◌∙◌}
use mathlib.Core.Logic.{◌≢◌, inl, inr}
use mathlib.Core.Bool.{true, false}
use mathlib.Core.List.{List, [], ◌∷◌, ◌++◌, append_assoc, append-nil, map, map-append}
use lib.ListN.{length, get_or, take}
use lib.Seq.{take-suc}
use borrow.Author.Tests.{eq-eqb, ne_eqb}
use Rattle.bools.proofs.OrderLaws.{lt-or-le}
use Rattle.sums.specs.Members.{members}
use Rattle.sums.proofs.MembersLaws.{members-snoc-true, members-snoc-false}
use Rattle.bits.specs.Bits.{is_set}
use Rattle.bits.proofs.SetBits.{is_set-digit, is_set-past}
use Rattle.fields.specs.declared.fault.Fault.{Fault as AnyFault}
use Rattle.fields.specs.Numbers.{number_of, place_of}
use Rattle.answers.specs.declared.answer.Answer.{Answer}
use Rattle.answers.specs.declared.answer.Answer.TheVariants.{Plan, Long, None, Fault}
use Rattle.answers.specs.declared.answer.PlanAnswer.{PlanAnswer}
use Rattle.answers.specs.declared.answer.LongAnswer.{LongAnswer}
use Rattle.answers.specs.declared.answer.NoneAnswer.{NoneAnswer}
use Rattle.lines.specs.Buffer.{Puts, Front}
use Rattle.lines.specs.Lines.{digits, space, newline, spaced, line, job_lines, lines_of}
use Rattle.lines.specs.Lines.{plan_letters, long_letters, none_letters, fault_letters}
use Rattle.lines.proofs.BufferLaws.{puts_then, puts_as, puts_text}

-- ── words and lines ──

pub take_more : (s : List ℕ) (i : ℕ) → i < length s → take i s ++ get_or s i 0 ∷ [] ≡ take (i + 1) s
take_more s i h = sym (ap (λ (n : ℕ). take n s) (add-one i) ∙ take-suc s i 0 h)

pub spaced-append : (ws vs : List (List ℕ)) → spaced (ws ++ vs) ≡ spaced ws ++ spaced vs
unfolding spaced
spaced-append [] vs = refl
spaced-append (w ∷ ws) vs =
    ap (λ (s : List ℕ). space ∷ w ++ s) (spaced-append ws vs) ∙ ap (λ (s : List ℕ). space ∷ s) (sym (append_assoc w (spaced ws) (spaced vs)))

spaced-one : (w : List ℕ) → spaced (w ∷ []) ≡ space ∷ w
unfolding spaced
spaced-one w = rw (append-nil w)

-- Words behind the first, and the newline.
line-words : (w v : List ℕ) (ws : List (List ℕ)) → ((w ++ space ∷ v) ++ spaced ws) ++ newline ∷ [] ≡ line (w ∷ v ∷ ws)
unfolding line spaced
line-words w v ws = simp append_assoc

pub line_word : (w v : List ℕ) (ws : List (List ℕ)) → (w ++ space ∷ []) ++ line (v ∷ ws) ≡ line (w ∷ v ∷ ws)
unfolding line spaced
line_word w v ws = simp append_assoc

pub line-pair : (w v : List ℕ) → (w ++ space ∷ v) ++ newline ∷ [] ≡ line (w ∷ v ∷ [])
unfolding line spaced
line-pair w v = simp (append_assoc, append-nil)

-- ── the loops ──

pub jobs_none : (places : List ℕ) → [] ≡ job_lines 0 places
unfolding job_lines
jobs_none places = refl

pub jobs_more : (places : List ℕ) (j : ℕ) → job_lines j places ++ line (digits j ∷ digits (get_or places j 0) ∷ []) ≡ job_lines (j + 1) places
unfolding job_lines
jobs_more places j = sym (ap (λ (n : ℕ). job_lines n places) (add-one j))

-- The benches of a set below b, each behind a space.
abbrev pub benches_below : ℕ → ℕ → List ℕ
benches_below set b = spaced (map digits (members b (is_set 64 set)))

pub benches_none : (set : ℕ) → [] ≡ benches_below set 0
unfolding members spaced
benches_none set = refl

pub bench_in : (set b : ℕ) → b < 64 → set / 2 ^ (63 - b) % 2 ≡ 1 → benches_below set b ++ space ∷ digits b ≡ benches_below set (b + 1)
bench_in set b l e =
    let is : is_set 64 set b ≡ true = is_set-digit 64 set b l ∙ eq-eqb (set / 2 ^ (63 - b) % 2) 1 e in
    sym (ap (benches_below set) (add-one b)
    ∙ ap (λ (bs : List ℕ). spaced (map digits bs)) (members-snoc-true b (is_set 64 set) is)
    ∙ ap spaced (map-append digits (members b (is_set 64 set)) (b ∷ []))
    ∙ spaced-append (map digits (members b (is_set 64 set))) (digits b ∷ [])
    ∙ ap (λ (s : List ℕ). benches_below set b ++ s) (spaced-one (digits b)))

pub bench_out : (set b : ℕ) → set / 2 ^ (63 - b) % 2 ≢ 1 → benches_below set b ≡ benches_below set (b + 1)
bench_out set b n =
    let is : is_set 64 set b ≡ false = elim (lt-or-le b 64) [
      | inl l ↦ is_set-digit 64 set b l ∙ ne_eqb (set / 2 ^ (63 - b) % 2) 1 n
      | inr l ↦ is_set-past 64 set b l
    ] in
    sym (ap (benches_below set) (add-one b) ∙ ap (λ (bs : List ℕ). spaced (map digits bs)) (members-snoc-false b (is_set 64 set) is))

-- ── the lines of an answer ──

module _ (places : List ℕ) {out : List ℕ} {at : ℕ} {one two : List ℕ} {m n : ℕ} {after : List ℕ} {r : ℕ} where
  pub plan_put : (a : PlanAnswer) → Puts out at (plan_letters ++ space ∷ []) one m
      → Puts one m (line (digits a.largest ∷ digits a.moves ∷ digits a.fullest ∷ [])) two n
      → Puts two n (job_lines (length places) places) after r → Puts out at (lines_of (Plan a) places) after r
  unfolding lines_of
  plan_put a p q s =
      let first = line_word plan_letters (digits a.largest) (digits a.moves ∷ digits a.fullest ∷ []) in
      puts_as (ap (λ (l : List ℕ). l ++ job_lines (length places) places) first) (puts_then (puts_then p q) s)

  pub long_put : (a : LongAnswer) → Puts out at long_letters one m → Puts one m (space ∷ digits a.job) two n
      → Puts two n (newline ∷ []) after r → Puts out at (lines_of (Long a) places) after r
  unfolding lines_of
  long_put a p q s = puts_as (line-pair long_letters (digits a.job)) (puts_then (puts_then p q) s)

  pub none_put : (a : NoneAnswer) {three : List ℕ} {o : ℕ} → Puts out at none_letters one m
      → Puts one m (space ∷ digits a.moves) two n → Puts two n (benches_below a.set 64) three o
      → Puts three o (newline ∷ []) after r → Puts out at (lines_of (None a) places) after r
  unfolding lines_of
  none_put a p q s t =
      puts_as (line-words none_letters (digits a.moves) (map digits (members 64 (is_set 64 a.set))))
      (puts_then (puts_then (puts_then p q) s) t)

pub fault_put : (f : AnyFault) {x y : ℕ} {out : List ℕ} {at : ℕ} {one : List ℕ} {m : ℕ} {after : List ℕ} {r : ℕ}
    → x ≡ number_of f → y ≡ place_of f → Puts out at (fault_letters ++ space ∷ []) one m
    → Puts one m (line (digits x ∷ digits y ∷ [])) after r → Puts out at (lines_of (Fault f) []) after r
unfolding lines_of
fault_put f {x} {y} e g p q =
    puts_as (line_word fault_letters (digits x) (digits y ∷ []) ∙ rw (e, g)) (puts_then p q)

-- A fault has no places.
pub fault_alone : (f : AnyFault) (places : List ℕ) → lines_of (Fault f) [] ≡ lines_of (Fault f) places
unfolding lines_of
fault_alone f places = refl

-- The whole text, which stands at the front.
pub text_put : {answer case : Answer} (places : List ℕ) {out after : List ℕ} {r : ℕ} → answer ≡ case
    → Puts out 0 (lines_of case places) after r → Front out (lines_of answer places) after r
text_put places e p = puts_text (puts_as (ap (λ (a : Answer). lines_of a places) (sym e)) p)
