-- The sets have the rocks passed (NeighbourLaws).
use Rattle.rock_graph.proofs.NeighbourLaws.{filling_starts, filling_goes_on}
use Rattle.rock_graph.proofs.maps.fill_incident.Goals as goal

pub loop-r-init : goal.loop-r-init
loop-r-init c = λ e. filling_starts c.args.low.now c.args.high.now e

pub loop-r-preserved : goal.loop-r-preserved
loop-r-preserved c =
    λ e. filling_goes_on c.args.low.now c.args.high.now c.loop-r.r c.at.result c.at-in-loop-r.result
    c.loop-r.incident c.add_rock.new.incident (c.loop-r.invariant e) c.at.ensures c.at-in-loop-r.ensures
    c.add_rock.auto.incident c.add_rock-in-loop-r.auto.incident c.add_rock.ensures c.add_rock-in-loop-r.ensures
