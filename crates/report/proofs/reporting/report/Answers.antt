use Rattle.report.proofs.reporting.report.Goals as goal
use Rattle.report.specs.Report.{report_text}
use Rattle.report.specs.Texts.{copied, copy_answer, shown}
use Rattle.sheet.specs.State.{closed_state}
use Rattle.sheet.specs.declared.marks.Mark.{Mark}
use Rattle.table.specs.declared.board.Board.{Board}
use Rattle.table.specs.declared.row.Row.{Row}
use Rattle.std.proofs.Common.{◌≡◌, List, length, ap, ◌∙◌}

pub returns : goal.returns
returns g c =
    let m = g.T.Test.meaning c.args.test.now in
    let sheet = c.args.sheet.now.sheet in
    let text : shown c.compose.result ≡ report_text (g.T.Test.meaning c.args.test.now) (closed_state c.args.sheet.now) =
    c.compose.ensures.answer
    ∙ ap (λ (b : Board). report_text m (record { board = b; rows = c.rows.result.now; marks = c.marks.result })) c.board.ensures.answer
    ∙ ap (λ (rows : List Row). report_text m (record { board = sheet.board; rows = rows; marks = c.marks.result })) c.rows.ensures.answer
    ∙ ap (λ (marks : List Mark). report_text m (record { board = sheet.board; rows = sheet.rows.now; marks = marks })) c.marks.ensures.answer in
    record {
      answer = c.copy_to.ensures.answer ∙ ap (λ t. copy_answer t (length c.args.out.now)) text;
      buffer = c.copy_to.ensures.buffer ∙ ap (λ t. copied t c.args.out.now) text;
    }
