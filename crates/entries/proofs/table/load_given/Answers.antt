-- `load_given`: the entry behind the whole ones is the only one that lacks bytes.
use native.Mathlib.Omega.{arith}
use mathlib.Core.Path.{refl, sym, ap, ◌∙◌}
use mathlib.Core.List.{List}
use Prim.Native.Nat.{ℕ, ◌/◌}
use lib.ListN.{length, get_or, set}
use Rattle.tables.proofs.TableSteps.{given_kept, given_marked, loaded_entry}
use Rattle.entries.proofs.table.load_given.Goals as goal
use Rattle.entries.proofs.table.load_given.Goals.{else-last-n-via-then-last-n+else-into-last-eq0, else-last-n-via-else-last-n}

pub returns-then-into-last-eq0-clause-loaded : goal.returns-then-into-last-eq0-clause-loaded
returns-then-into-last-eq0-clause-loaded c =
    let t = c.args.t.now in
    let into = c.args.into.now in
    let last = length t / 8 in
    let entry = loaded_entry t c.args.missing into last (omega (arith, c.load-n.ensures.counted, c.if-last-n.true)) in
    let zero = sym entry ∙ sym (ap (λ (xs : List ℕ). get_or xs last 0) c.load-n.ensures.loaded) ∙ c.if-into-last-eq0.true in
    ap (λ (xs : List ℕ). set xs last c.args.missing) c.load-n.ensures.loaded
    ∙ given_marked t c.args.missing into c.load-n.result last c.load-n.ensures.counted refl c.if-last-n.true zero

pub returns-else-last-n-clause-loaded : goal.returns-else-last-n-clause-loaded
returns-else-last-n-clause-loaded c =
    let t = c.args.t.now in
    let into = c.args.into.now in
    let last = length t / 8 in
    c.load-n.ensures.loaded
    ∙ given_kept t c.args.missing into c.load-n.result last c.load-n.ensures.counted refl
    (λ l zero. elim c.else-last-n.branch [
      | else-last-n-via-then-last-n+else-into-last-eq0 w ↦
          let entry = loaded_entry t c.args.missing into last (omega (arith, c.load-n.ensures.counted, l)) in
          w.if-into-last-eq0.false (ap (λ (xs : List ℕ). get_or xs last 0) c.load-n.ensures.loaded ∙ entry ∙ zero)
      | else-last-n-via-else-last-n w ↦ omega (arith, w.if-last-n.false)
    ])
