use Rattle.callfigures.proofs.Computed.{figures_hold}
use Rattle.callfigures.proofs.worked_calls.Goals as goal

pub returns-clause-figures : goal.returns-clause-figures
returns-clause-figures c = figures_hold
