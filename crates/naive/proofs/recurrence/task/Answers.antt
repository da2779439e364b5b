use Rattle.std.proofs.Common.{◌≡◌, Some, sym, ap, ◌∙◌, arith}
use Rattle.std.proofs.lemmas.Bool.{ltb-false}
use Rattle.naive.proofs.Tasks.{none_free, none_outside, none_past, some_held}
use Rattle.naive.proofs.recurrence.task.Goals as goal
use Rattle.table.specs.Rows.{holds_task, past, row_at}

pub returns-in_default : goal.returns-in_default
returns-in_default c = sym (none_outside c.args.rows.now c.args.number (ltb-false _ _ (sym c.in_default.ensures.lookup.0)))

pub returns-then-number-gt63 : goal.returns-then-number-gt63
returns-then-number-gt63 c = sym (none_past c.args.rows.now c.args.number (omega arith))

pub returns-then-holds_task : goal.returns-then-holds_task
returns-then-holds_task c =
    let read : c.in-Some.row.now ≡ row_at c.args.rows.now c.args.number = c.in-Some.ensures.lookup.3.1 past in
    let holds = ap holds_task (sym read) ∙ sym c.holds_task.ensures ∙ c.if-holds_task.true in
    ap Some read ∙ sym (some_held c.args.rows.now c.args.number (omega arith) holds)

pub returns-else-holds_task : goal.returns-else-holds_task
returns-else-holds_task c =
    let read : c.in-Some.row.now ≡ row_at c.args.rows.now c.args.number = c.in-Some.ensures.lookup.3.1 past in
    sym (none_free c.args.rows.now c.args.number (ap holds_task (sym read) ∙ sym c.holds_task.ensures ∙ c.if-holds_task.false))
