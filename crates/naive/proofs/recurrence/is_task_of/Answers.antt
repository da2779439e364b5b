use Rattle.std.proofs.Common.{sym, ◌∙◌}
use Rattle.naive.proofs.Tasks.{core_none, core_some}
use Rattle.naive.proofs.recurrence.is_task_of.Goals as goal

pub returns-in-Some : goal.returns-in-Some
returns-in-Some c = core_some c.args.rows.now c.args.core c.args.number c.in-Some.row (sym c.task.ensures ∙ c.in-Some.is)

pub returns-in-None : goal.returns-in-None
returns-in-None c = core_none c.args.rows.now c.args.core c.args.number (sym c.task.ensures ∙ c.in-None.is)
