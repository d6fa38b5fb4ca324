-- The classes by PlaceRun.
use Rattle.placing.proofs.PlaceRun.{closed-shown, joined-shown}
use Rattle.placing.proofs.classes.place.Goals as goal

pub returns-then-closes : goal.returns-then-closes
returns-then-closes c g s i job few shows =
    closed-shown c.args.bay c.args.c c.args.labels.now c.args.extra.now c.args.low c.args.high c.args.minutes g s i
    job few shows
    (record {
      low_shut = c.has-low_shut.ensures;
      high_shut = c.has-high_shut.ensures;
      low_price = c.price-price_low.ensures;
      high_price = c.price-price_high.ensures;
      to_low = c.goes_low-to_low.ensures;
      pays = c.pick-paid.ensures;
      sums = c.saturating_add-base.ensures;
      low_label = c.at-label_low.ensures;
      high_label = c.at-label_high.ensures;
    })
    c.closes.ensures c.if-closes.true c.pick-label.ensures c.shut_class-shut.ensures

pub returns : goal.returns
returns c g s i job few shows =
    joined-shown c.args.bay c.args.c c.args.labels.now c.args.extra.now c.args.low c.args.high c.args.minutes g s i
    job few shows
    (record {
      low_shut = c.has-low_shut.ensures;
      high_shut = c.has-high_shut.ensures;
      low_price = c.price-price_low.ensures;
      high_price = c.price-price_high.ensures;
      to_low = c.goes_low-to_low.ensures;
      pays = c.pick-paid.ensures;
      sums = c.saturating_add-base.ensures;
      low_label = c.at-label_low.ensures;
      high_label = c.at-label_high.ensures;
    })
    c.closes.result c.closes.ensures c.if-closes.false c.saturating_sub-by_low.ensures c.saturating_sub-by_high.ensures
    c.join_all.ensures.raised c.join_all.ensures.labelled
