-- The equation of the planning crate, and what follows from it (Claim).
use Rattle.blocking.proofs.Claim.{answered_claim}
use Rattle.public_plan.proofs.planner.plan.Goals as goal

pub returns : goal.returns
returns c =
    let called = c.plan.ensures in
    record { equation = called; demand = answered_claim c.args.s.now c.args.places.now c.args.loads.now _ _ _ called }
