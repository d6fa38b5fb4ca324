-- The tables are filled with the minutes and the list.
use Rattle.lists.proofs.ListRun.{list_summed}
use Rattle.lists.proofs.lists.sum_list.Goals as goal

pub returns : goal.returns
returns c =
    record {
      loads = λ few. list_summed 512 c.args.jobs c.args.minutes.now c.args.list.now few c.to_numbers.ensures
          c.to_numbers-2.ensures c.args.load.now c.sum_benches.ensures.loads;
      fullest = c.sum_benches.ensures.fullest;
    }
