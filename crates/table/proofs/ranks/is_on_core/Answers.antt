use Rattle.table.proofs.Places.{no_task_from, off_core}
use Rattle.table.proofs.ranks.is_on_core.Goals as goal
use Rattle.table.specs.Rows.{holds_task, is_task, on_core, past}
use Rattle.std.proofs.Common.{sym, ap, arith}

pub returns-in-Some : goal.returns-in-Some
unfolding on_core is_task
returns-in-Some c = let row = c.in-Some.ensures.lookup.4 (omega arith) past in cc

pub returns-in-None : goal.returns-in-None
returns-in-None c =
    let rows = c.args.rows.now in
    let k = c.args.number in
    sym (off_core rows c.args.core k (no_task_from rows k (ap holds_task (sym (c.in-None.ensures.lookup.4 (omega arith) past)))))
