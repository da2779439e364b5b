use Rattle.report.proofs.composing.push_number.Goals as goal
use Rattle.report.proofs.composing.push_number.Goals.{else-is_task-via-else-is_task, else-is_task-via-then-is_task+else-n-rows}
use Rattle.report.specs.Lines.{task_line}
use Rattle.report.specs.Texts.{shown}
use Rattle.std.proofs.lemmas.List.{append-nil}
use Rattle.std.proofs.lemmas.Bool.{cond-false, cond-true}
use Rattle.table.proofs.Places.{no_task_outside}
use Rattle.table.specs.Ranks.{higher_ranked}
use Rattle.table.specs.Rows.{is_task, row_at}
use Rattle.table.specs.declared.row.Row.{Row}
use Rattle.std.proofs.Common.{◌≡◌, false, [], ◌++◌, sym, ap, ◌∙◌, arith, true, subst, List, length, ◌≤◌}

pub returns-then-n-rows : goal.returns-then-n-rows
returns-then-n-rows g c =
    let rows = c.args.asking.now.rows.now in
    let n = c.args.number in
    let ask = g.T.Test.meaning c.args.asking.now.test.now c.args.asking.now.board c.args.asking.now.rows.now in
    let start = shown c.args.text.now in
    let task : is_task rows n ≡ true = ap (λ (xs : List Row). is_task xs n) (sym c.rows-rows.ensures.answer) ∙ sym c.is_task.ensures.answer ∙ c.if-is_task.true in
    record {
      shows =
          c.push_task.ensures.shows
          ∙ ap (λ (xs : List Row). start ++ task_line n (row_at xs n) c.ask_ranked.result) c.rows-rows.ensures.answer
          ∙ ap (λ b. start ++ task_line n (row_at rows n) b) c.ask_ranked.ensures.answer
          ∙ ap (λ z. start ++ z) (sym (cond-true (is_task rows n) (task_line n (row_at rows n) (ask n (higher_ranked rows n))) [] task));
      near = c.push_task.ensures.near;
    }

pub returns-else-is_task : goal.returns-else-is_task
returns-else-is_task g c =
    let rows = c.args.asking.now.rows.now in
    let n = c.args.number in
    let ask = g.T.Test.meaning c.args.asking.now.test.now c.args.asking.now.board c.args.asking.now.rows.now in
    let start = shown c.args.text.now in
    let none : is_task rows n ≡ false =
    elim c.else-is_task.branch [
      | else-is_task-via-then-is_task+else-n-rows w ↦ no_task_outside rows n (subst (λ (xs : List Row). length xs ≤ n) c.rows-rows.ensures.answer w.if-n-rows.false)
      | else-is_task-via-else-is_task w ↦ ap (λ (xs : List Row). is_task xs n) (sym c.rows-rows.ensures.answer) ∙ sym c.is_task.ensures.answer ∙ w.if-is_task.false
    ] in
    record {
      shows = sym (append-nil start) ∙ ap (λ z. start ++ z) (sym (cond-false (is_task rows n) (task_line n (row_at rows n) (ask n (higher_ranked rows n))) [] none));
      near = omega arith;
    }
