use Rattle.table.proofs.Flags.{flags_of}
use Rattle.table.proofs.FromFn.{from_fn_same}
use Rattle.table.proofs.Places.{no_task_past, not_higher}
use Rattle.table.proofs.set.TaskSet.higher_ranked.Goals as goal
use Rattle.table.specs.Ranks.{higher_ranked}
use Rattle.std.proofs.Common.{rules, false}

pub returns : goal.returns
returns c =
    let rows = c.args.rows.now in
    let set = higher_ranked rows c.args.number in
    record {
      answer = flags_of set c.from_fn.result (λ k past. not_higher rows c.args.number k (no_task_past rows k past)) (from_fn_same _ set _ false (λ i y q k. search rules) c.from_fn.result 64 c.from_fn.ensures.items);
    }
