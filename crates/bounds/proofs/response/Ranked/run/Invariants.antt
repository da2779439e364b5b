use Rattle.std.proofs.Common.{◌≡◌, ◌+◌, ◌-◌, ◌≤◌}
use Rattle.bounds.proofs.Fair.{Fair}
use Rattle.bounds.proofs.Falling.{left}
use Rattle.bounds.proofs.response.Ranked.run.Given as goal
use Rattle.bounds.specs.Rounds.{response, rounds}

-- what is left of the rounds gives the answer, and there are rounds enough
abbrev pub invariant-loop-bounds : goal.invariant-loop-bounds
invariant-loop-bounds l =
    let board = l.self.table.board in
    let rows = l.self.rows.now in
    Fair board rows l.before
    × (rounds board rows (640000002 - l.round) l.round l.before ≡ response board rows)
    × (left board rows l.before + l.round ≤ 640000001)

abbrev pub decreases-loop-bounds : goal.decreases-loop-bounds
decreases-loop-bounds l = left l.self.table.board l.self.rows.now l.before
