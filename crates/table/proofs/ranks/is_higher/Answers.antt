use Rattle.table.proofs.Places.{no_task_from, none_above_past, not_higher}
use Rattle.table.proofs.ranks.is_higher.Goals as goal
use Rattle.table.specs.Ranks.{higher_ranked}
use Rattle.table.specs.Rows.{holds_task, is_task, on_core, past}
use Rattle.std.proofs.Common.{sym, ap, arith}

pub returns-in-Some-Some : goal.returns-in-Some-Some
unfolding higher_ranked on_core is_task
returns-in-Some-Some c =
    let low = c.in-Some-Some.ensures.lookup.4 (omega arith) past in
    let high = c.in-Some-Some.ensures'.lookup.4 (omega arith) past in
    cc

pub returns-in_default : goal.returns-in_default
returns-in_default c =
    let rows = c.args.rows.now in
    let j = c.args.other in
    sym (not_higher rows c.args.number j (no_task_from rows j (ap holds_task (sym (c.in_default.ensures'.lookup.4 (omega arith) past)))))

pub returns-in_default-2 : goal.returns-in_default-2
returns-in_default-2 c =
    let rows = c.args.rows.now in
    let i = c.args.number in
    sym (none_above_past rows i c.args.other (sym (c.in_default.ensures.lookup.4 (omega arith) past)))
