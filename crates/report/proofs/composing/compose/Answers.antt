use Rattle.report.proofs.Added.{then}
use Rattle.report.proofs.composing.compose.Goals as goal
use Rattle.report.specs.Lines.{head_line}
use Rattle.report.specs.Report.{line_of_core, line_of_number, report_text}
use Rattle.report.specs.Texts.{shown}
use Rattle.tablefile.specs.Parts.{laid}
use Rattle.std.proofs.Common.{◌++◌, ap, ◌∙◌, ◌≡◌}

pub returns : goal.returns
unfolding report_text
returns g c =
    let board = c.args.board.now in
    let rows = c.args.rows.now in
    let head = c.push_head.ensures.shows ∙ ap (λ t. t ++ head_line board) c.new-text.ensures.shows in
    let test = c.new-asking.ensures.test in
    let same = c.new-asking.ensures.board in
    let asked = c.new-asking.ensures.rows in
    let told = c.push_numbers.ensures.shows in
    let numbers : shown c.push_numbers.new.text ≡ shown c.push_cores.new.text ++ laid 64 (line_of_number (g.T.Test.meaning c.args.test.now board rows) rows) = cc in
    record {
      answer =
          then (head_line board) (shown c.push_cores.new.text) (shown c.push_numbers.new.text) (laid board.cores (line_of_core c.args.marks.now)) (laid 64 (line_of_number (g.T.Test.meaning c.args.test.now board rows) rows))
          (c.push_cores.ensures.shows ∙ ap (λ t. t ++ laid board.cores (line_of_core c.args.marks.now)) head)
          numbers;
    }
