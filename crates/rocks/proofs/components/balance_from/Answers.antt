-- The entry is known, or all benches of the component get its balance (BalanceRun).
use mathlib.Core.Path.{ap, ◌∙◌}
use Rattle.rocks.proofs.ComponentRun.{component-found, component-balance}
use Rattle.rocks.proofs.BalanceRun.{balances_fill}
use Rattle.rocks.proofs.components.balance_from.Goals as goal

pub returns : goal.returns
returns g c =
    λ d R zero hv X.
    let found = component-found d c.args.n c.args.low.now c.args.high.now R c.args.neutral.now zero
    c.args.v c.with.result c.spread-set.result hv c.with.ensures c.spread-set.ensures in
    balances_fill g.S.Standing.entry g.S.Entry.blank d c.args.v hv c.args.balance.now X c.spread-set.result found
    (c.entry.ensures ∙ ap g.S.Standing.entry
    (component-balance d c.args.n c.args.low.now c.args.high.now R c.args.neutral.now zero
    c.args.v c.spread-set.result found c.set_balance-b.ensures)) c.put_where.auto.to
    c.put_where.ensures
