use Rattle.bounds.proofs.Totals.{seen_le}
use Rattle.bounds.proofs.load.Load.releases.Goals as goal
use Rattle.bounds.specs.Demand.{releases}
use Rattle.std.proofs.Common.{refl}

pub returns : goal.returns
unfolding releases
returns c = record { value = refl; few = seen_le c.args.window c.args.self.now }
