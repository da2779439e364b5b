use Rattle.std.proofs.Common.{sym, ◌∙◌}
use Rattle.naive.proofs.Tasks.{above_none, above_some}
use Rattle.naive.proofs.recurrence.is_ranked_above.Goals as goal

pub returns-in-Some : goal.returns-in-Some
returns-in-Some c = above_some c.args.rows.now c.args.me.now c.args.number c.in-Some.other (sym c.task.ensures ∙ c.in-Some.is)

pub returns-in-None : goal.returns-in-None
returns-in-None c = above_none c.args.rows.now c.args.me.now c.args.number (sym c.task.ensures ∙ c.in-None.is)
