use Rattle.table.proofs.Places.{no_task_from}
use Rattle.table.proofs.tasks.is_task.Goals as goal
use Rattle.table.specs.Rows.{holds_task, is_task, past}
use Rattle.std.proofs.Common.{sym, ap, arith}

pub returns-in-Some : goal.returns-in-Some
unfolding is_task
returns-in-Some c = let row = c.in-Some.ensures.lookup.4 (omega arith) past in record { answer = cc }

pub returns-in-None : goal.returns-in-None
returns-in-None c = record { answer = sym (no_task_from c.args.rows.now c.args.number (ap holds_task (sym (c.in-None.ensures.lookup.4 (omega arith) past)))) }
