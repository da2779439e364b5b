use Rattle.bounds.proofs.load.Load.rival.Goals as goal
use Rattle.table.proofs.Limited.{limited}
use Rattle.std.proofs.Common.{arith}

pub invariant_of-result : goal.invariant_of-result
invariant_of-result c =
    let k = limited c.args.task.now.figures c.args.task.now.limits in
    record { core_low = c.requires; period_low = k.period_low; period_high = k.period_high; cost_high = omega arith; weight_high = k.stress_small }
