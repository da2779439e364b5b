use Rattle.std.proofs.Common.{sym, ◌∙◌}
use Rattle.naive.proofs.Tasks.{off_none, off_some, on_some}
use Rattle.naive.proofs.rounds.task_on.Goals as goal

pub returns-in_default : goal.returns-in_default
returns-in_default c = off_none c.args.board.now c.args.rows.now c.args.number (sym c.task.ensures ∙ c.in_default.is)

pub returns-then-row-board : goal.returns-then-row-board
returns-then-row-board c = on_some c.args.board.now c.args.rows.now c.args.number c.in-Some.row (sym c.task.ensures ∙ c.in-Some.is) c.if-row-board.true

pub returns-else-row-board : goal.returns-else-row-board
returns-else-row-board c = off_some c.args.board.now c.args.rows.now c.args.number c.in-Some.row (sym c.task.ensures ∙ c.in-Some.is) c.if-row-board.false
