use Rattle.bounds.proofs.load.Load.higher.Goals as goal
use Rattle.table.proofs.Limited.{limited}

pub invariant_of-result-2 : goal.invariant_of-result-2
invariant_of-result-2 c =
    let k = limited c.args.task.now.figures c.args.task.now.limits in
    record { core_low = c.requires; period_low = k.period_low; period_high = k.period_high; cost_high = k.cost_high; weight_high = k.sensitivity_small }
