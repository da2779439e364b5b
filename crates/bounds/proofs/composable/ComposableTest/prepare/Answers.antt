use Rattle.bounds.specs.Tested.{composable_laws}
use Rattle.bounds.proofs.composable.ComposableTest.prepare.Goals as goal
use Rattle.bounds.specs.Bounds.{composable_bound}
use Rattle.table.specs.Tasks.{listed}
use Rattle.std.proofs.Common.{sym, ap, ◌∙◌}
use Rattle.std.proofs.Math.Path.{fun_ext}

pub returns : goal.returns
returns c =
    let board = c.args.board.now in
    let rows = c.args.rows.now in
    record {
      answer =
          ap (λ b. composable_bound b (listed c.of.result.tasks)) c.of.ensures.board
          ∙ ap (composable_bound board) c.of.ensures.tasks
          ∙ fun_ext (λ i. fun_ext (λ set. sym (composable_laws.ranks board rows i set)));
    }
