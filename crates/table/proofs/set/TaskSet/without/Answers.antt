use Rattle.table.proofs.Flags.{flag_cleared}
use Rattle.table.proofs.set.TaskSet.without.Goals as goal
use Rattle.std.proofs.Common.{false, get_or, ap, ◌∙◌}

pub returns : goal.returns
returns c = record { answer = ap (λ flags j. get_or flags j false) c.marked.ensures ∙ flag_cleared c.args.self.flags c.args.number }
