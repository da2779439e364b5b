use Rattle.naive.proofs.recurrence.tasks_of.Goals as goal
use Rattle.table.proofs.Flags.{flags_of}
use Rattle.table.proofs.FromFn.{from_fn_same}
use Rattle.table.proofs.Places.{no_task_past, off_core}
use Rattle.table.specs.Rows.{on_core}
use Rattle.std.proofs.Common.{rules, false}

pub returns : goal.returns
returns c =
    let rows = c.args.rows.now in
    let core = c.args.core in
    record {
      answer = flags_of (on_core rows core) c.from_fn.result (λ k past. off_core rows core k (no_task_past rows k past)) (from_fn_same _ (on_core rows core) _ false (λ i y q k. search rules) c.from_fn.result 64 c.from_fn.ensures.items);
    }
