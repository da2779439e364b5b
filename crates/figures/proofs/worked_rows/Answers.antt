use Rattle.figures.proofs.Computed.{figures_hold}
use Rattle.figures.proofs.worked_rows.Goals as goal

pub returns : goal.returns
returns c = record { answer = cc; figures = figures_hold }
