use Rattle.bounds.proofs.gathering.RivalsPick.pick.Goals as goal
use Rattle.bounds.specs.Gathering.{rival_form}
use Rattle.bounds.specs.Lengths.{length_of}
use Rattle.table.proofs.Places.{on_board_core}
use Rattle.table.specs.Tasks.{row_of}
use Rattle.table.specs.declared.row.Row.{Row}
use Rattle.std.proofs.Common.{Some, sym, ap, ◌∙◌, arith}

pub rival-requires : goal.rival-requires
rival-requires c =
    let table = c.args.self.now.table.now in
    let found = c.in_ok-task.ensures in
    omega (arith, on_board_core table.board _ c.args.number found.0, ap (λ (q : Row). q.core) found.1, table.board.few_cores)

pub returns : goal.returns
returns c =
    let found = c.in_ok-task.ensures in
    (found.0, c.rival.ensures ∙ ap (λ n. rival_form n (row_of (Some c.in_ok-task.task))) c.at.ensures ∙ ap (rival_form (length_of c.args.self.now.ahead.now.of c.args.number)) (sym found.1))
