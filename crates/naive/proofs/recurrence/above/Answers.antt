use Rattle.std.proofs.Common.{rules, false, map, sym, ap, ◌∙◌}
use Rattle.naive.proofs.Tasks.{above_task, none_flagged, none_ranked, past_ranked}
use Rattle.naive.proofs.recurrence.above.Goals as goal
use Rattle.naive.specs.Answers.{is_above, ranked_above}
use Rattle.std.specs.List.{range_with_len}
use Rattle.table.proofs.Flags.{flags_of}
use Rattle.table.proofs.FromFn.{from_fn_same}
use mathlib.Core.Path.{fun_ext}

pub returns-in-Some : goal.returns-in-Some
returns-in-Some c =
    let rows = c.args.rows.now in
    let i = c.args.number in
    let me = c.in-Some.me in
    let flags = c.from_fn.result in
    let held = sym c.task.ensures ∙ c.in-Some.is in
    record {
      answer = flags_of (ranked_above rows i) flags (past_ranked rows i) (
          from_fn_same _ (is_above rows me) _ false (λ j y q call. search rules) flags 64 c.from_fn.ensures.items
          ∙ ap (λ f. map f (range_with_len 0 64)) (fun_ext (above_task rows i me held)));
    }

pub returns-in-None : goal.returns-in-None
returns-in-None c = record {
  answer = fun_ext (λ k. none_flagged k ∙ sym (none_ranked c.args.rows.now c.args.number k (sym c.task.ensures ∙ c.in-None.is)));
}
