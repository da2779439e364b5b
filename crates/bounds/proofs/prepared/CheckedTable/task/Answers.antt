use Rattle.bounds.proofs.Checked.{kept}
use Rattle.bounds.proofs.prepared.CheckedTable.task.Goals as goal
use Rattle.std.proofs.Common.{rules, sym}

pub returns : goal.returns
returns c = let self = c.args.self.now in kept self.board self.tasks c.args.number _ (λ task b h. search rules) c.at.result c.filter.result (sym c.at.ensures.answer) c.filter.ensures
