use Rattle.std.proofs.Common.{rules}
use Rattle.table.proofs.FromFn.{from_fn_same}
use Rattle.naive.proofs.recurrence.deadlines.Goals as goal
use Rattle.naive.specs.Answers.{deadline_at}

pub returns : goal.returns
returns c = record { answer = from_fn_same _ (deadline_at c.args.rows.now) _ 0 (λ k y q call. search rules) c.from_fn.result 64 c.from_fn.ensures.items }
