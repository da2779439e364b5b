use Rattle.std.proofs.Common.{◌≡◌, ◌+◌, ◌-◌, List, get_or, sym, ap, ◌∙◌, arith, None, Option, Some}
use Rattle.bounds.specs.Bounds.{deadline_bound}
use Rattle.promise.specs.declared.call.Answer.TheVariants.{Loaded}
use Rattle.promise.specs.declared.call.Answer.{Answer}
use Rattle.report.proofs.Ordered.{end_board, load_first, prints_report, prints_stop, then_orders}
use Rattle.report.proofs.analysing.analyse_for.Goals as goal
use Rattle.report.specs.Program.{blank, ordered_cores, stop_in}
use Rattle.report.specs.Report.{report_text}
use Rattle.sheet.specs.Loading.{after_load, load_answer}
use Rattle.sheet.specs.State.{State}
use Rattle.sheet.specs.declared.marks.Mark.{Mark}
use Rattle.table.specs.declared.board.Board.{Board}
use Rattle.table.specs.declared.row.Row.{Row}

pub returns-in-Some : goal.returns-in-Some
returns-in-Some c =
    let board = c.args.board in
    let bytes = c.args.bytes.now in
    let told : get_or c.run.new.answers 0 None ≡ Some (Loaded (load_answer (blank board) bytes)) =
    ap (λ (as' : List (Option Answer)). get_or as' 0 None) c.in-Ok.ensures.promise.answers_are ∙ load_first c.args.bytes (blank board) board.cores (board.cores + 1 - 0) (omega arith) _ None in
    c.refused.ensures ∙ sym (prints_stop board bytes c.in-Some.stop (ap stop_in (sym told) ∙ sym c.stop_of.ensures ∙ c.in-Some.is))

pub returns-in-None : goal.returns-in-None
returns-in-None c =
    let board = c.args.board in
    let bytes = c.args.bytes.now in
    let told : get_or c.run.new.answers 0 None ≡ Some (Loaded (load_answer (blank board) bytes)) =
    ap (λ (as' : List (Option Answer)). get_or as' 0 None) c.in-Ok.ensures.promise.answers_are ∙ load_first c.args.bytes (blank board) board.cores (board.cores + 1 - 0) (omega arith) _ None in
    let end : State = ordered_cores (after_load (blank board) bytes) board.cores in
    let all = then_orders c.args.bytes (blank board) board.cores (board.cores + 1 - 0) (omega arith) board.few_cores in
    let rows : c.run.new.rows ≡ end.rows = c.in-Ok.ensures.promise.rows_are ∙ ap (λ (s : State). s.rows) all in
    let marks : c.in-Ok.marks ≡ end.marks = c.in-Ok.ensures.promise.marks_are ∙ ap (λ (s : State). s.marks) all in
    c.compose.ensures.answer
    ∙ ap (λ (rs : List Row). report_text deadline_bound (record { board = board; rows = rs; marks = c.in-Ok.marks })) rows
    ∙ ap (λ (ms : List Mark). report_text deadline_bound (record { board = board; rows = end.rows; marks = ms })) marks
    ∙ ap (λ (b : Board). report_text deadline_bound (record { board = b; rows = end.rows; marks = end.marks })) (sym (end_board board bytes))
    ∙ sym (prints_report board bytes (ap stop_in (sym told) ∙ sym c.stop_of.ensures ∙ c.in-None.is))
