use Rattle.naive.proofs.numbers.Numbers.remove.Goals as goal
use Rattle.table.proofs.Flags.{flag_cleared}
use Rattle.std.proofs.Common.{false, get_or, ap, ◌∙◌}

pub returns : goal.returns
returns c = record { answer = ap (λ flags j. get_or flags j false) c.mark.ensures ∙ flag_cleared c.args.self.now.flags c.args.number }
