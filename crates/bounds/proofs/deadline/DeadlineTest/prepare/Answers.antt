use Rattle.bounds.proofs.Answered.{deadlines_told}
use Rattle.bounds.specs.Tested.{deadline_laws}
use Rattle.bounds.proofs.deadline.DeadlineTest.prepare.Goals as goal
use Rattle.bounds.specs.Bounds.{ahead_bound, deadline_bound}
use Rattle.bounds.specs.Lengths.{length_of}
use Rattle.table.specs.Tasks.{listed}
use Rattle.std.proofs.Common.{sym, ap, ◌∙◌}
use Rattle.std.proofs.Math.Path.{fun_ext}

pub returns : goal.returns
returns c =
    let board = c.args.board.now in
    let rows = c.args.rows.now in
    let made = c.with_deadlines.result in
    let table = c.of.result in
    record {
      answer =
          ap (λ x. ahead_bound (length_of made.ahead.of) x.board (listed x.tasks)) c.with_deadlines.ensures.table
          ∙ deadlines_told table.board (listed table.tasks) made.ahead.of c.with_deadlines.ensures.ahead
          ∙ ap (λ b. deadline_bound b (listed table.tasks)) c.of.ensures.board
          ∙ ap (deadline_bound board) c.of.ensures.tasks
          ∙ fun_ext (λ i. fun_ext (λ set. sym (deadline_laws.ranks board rows i set)));
    }
