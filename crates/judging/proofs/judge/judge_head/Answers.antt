-- `judge_head`: at each return the tests that led there decide which of the faults 4 to 8 is first.
use Rattle.std.specs.Prelude.{Ok}
use Rattle.std.proofs.lemmas.Result.{err_from_is_err_and}
use Rattle.judging.specs.declared.judge.Frame.TheVariants.{Head}
use Rattle.fields.specs.Tests.{Verdict, first_fault, head_faults}
use borrow.Author.Tests.{eq-eqb, ne_eqb}
use mathlib.Core.Path.{sym, ap, ◌∙◌}
use lib.ListN.{length}
use Rattle.bits.specs.Layout.{field}
use Rattle.fields.specs.Format.{head_layout, head_of}
use Rattle.judging.specs.Steps.{frame_of, sound}
use Rattle.judging.specs.FrameTests.{frame_faults}
use Rattle.judging.proofs.StageLaws.{misplaced-unless_start}
use Rattle.judging.proofs.judge.judge_head.Goals as goal

pub returns-then-body-ne-HEAD_LENGTH : goal.returns-then-body-ne-HEAD_LENGTH
unfolding frame_of frame_faults
returns-then-body-ne-HEAD_LENGTH c =
    let a = c.args in
    rw (c.in-Start.is, ne_eqb (length a.body.now) 7 c.if-body-ne-HEAD_LENGTH.true)

pub returns-then-head_spare-ne0 : goal.returns-then-head_spare-ne0
unfolding frame_of frame_faults
returns-then-head_spare-ne0 c =
    let a = c.args in
    let body = a.body.now in
    rw (
      c.in-Start.is,
      eq-eqb (length body) 7 c.if-body-ne-HEAD_LENGTH.false,
      ne_eqb (field head_layout 4 body) 0 (λ e. c.if-head_spare-ne0.true (c.head_spare.ensures ∙ e)),
    )

pub returns-in_err-check_head : goal.returns-in_err-check_head
unfolding frame_of frame_faults
returns-in_err-check_head c =
    let at-if2 = c.if-head_spare-ne0 in
    let at-spare = c.head_spare in
    let at-if1 = c.if-body-ne-HEAD_LENGTH in
    let a = c.args in
    let body = a.body.now in
    let read = c.read_head-h.ensures in
    let p = err_from_is_err_and c.from_residual.result c.from_residual.ensures.1 in
    rw (
      p.1,
      p.2,
      c.in-Start.is,
      eq-eqb (length body) 7 at-if1.false,
      eq-eqb (field head_layout 4 body) 0 (sym at-spare.ensures ∙ at-if2.false),
    )
    (ap (λ (v : Verdict). sound v (Head (head_of body)))
    (sym c.in_err-check_head.was ∙ c.check_head.ensures
    ∙ ap (λ x. first_fault (head_faults x a.at)) read))

pub returns : goal.returns
unfolding frame_of frame_faults
returns c =
    let at-if2 = c.if-head_spare-ne0 in
    let at-spare = c.head_spare in
    let at-if1 = c.if-body-ne-HEAD_LENGTH in
    let a = c.args in
    let body = a.body.now in
    let read = c.read_head-h.ensures in
    rw (
      c.in-Start.is,
      eq-eqb (length body) 7 at-if1.false,
      eq-eqb (field head_layout 4 body) 0 (sym at-spare.ensures ∙ at-if2.false),
    )
    (ap (λ h. Ok (Head h)) read
    ∙ ap (λ (v : Verdict). sound v (Head (head_of body)))
    (sym c.in_ok-check_head.was ∙ c.check_head.ensures
    ∙ ap (λ x. first_fault (head_faults x a.at)) read))

pub returns-in_default : goal.returns-in_default
unfolding frame_of frame_faults
returns-in_default c = rw (misplaced-unless_start c.args.stage 0 c.in_default.not-Start)
