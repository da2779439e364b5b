use Rattle.std.proofs.Common.{◌≡◌, ◌+◌, ◌*◌, ◌^◌, ◌≤◌}
use Rattle.bounds.proofs.Valued.{so_far}
use Rattle.bounds.proofs.question.LesserRuleRule.at.Given as goal
use Rattle.shortlist.specs.Items.{items}

-- the cores below y are counted
abbrev pub invariant-loop-y : goal.invariant-loop-y
invariant-loop-y l = (l.sum ≡ so_far l.self.board.now l.self.own.now (items l.self.rivals.now) l.fn.window.length l.y) × (l.sum ≤ 2 ^ 54 + l.y * 2 ^ 56)
