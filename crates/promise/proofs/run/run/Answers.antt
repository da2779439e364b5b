use Rattle.promise.proofs.Forms.{Formed, always_formed}
use Rattle.promise.proofs.Histories.{told_by_events}
use Rattle.promise.proofs.Holding.{sheet_holds}
use Rattle.promise.proofs.run.run.Goals as goal
use Rattle.promise.specs.Calls.{after_all}
use Rattle.promise.specs.Promise.{SheetHolds}
use Rattle.sheet.specs.State.{State, fresh}
use Rattle.sheet.specs.declared.marks.Mark.{Mark}
use Rattle.table.specs.Tests.{Meaning}
use Rattle.table.specs.declared.board.Board.{Board}
use Rattle.table.specs.declared.row.Row.{Row}
use Rattle.std.proofs.Common.{◌≡◌, Bool, List, length, take, drop, sym, ap, ◌∙◌, subst, arith}

-- a sheet by its parts
by_parts : (m : Meaning) (w : Bool) (board : Board) (s : State) (rows : List Row) (marks : List Mark) → s.board ≡ board → rows ≡ s.rows → marks ≡ s.marks → SheetHolds m w board s → SheetHolds m w board (record { board = board; rows = rows; marks = marks })
by_parts m w board s rows marks d e f h = subst (λ (z : State). SheetHolds m w board z) (λ t. record { board = d t; rows = sym e t; marks = sym f t }) h

pub returns : goal.returns
returns g c =
    let m = g.T.Test.meaning c.args.test.now in
    let w = g.T.Test.wide in
    let laws = g.met.T.Test.laws c.args.test.now in
    let board = c.args.board in
    let rows = c.args.rows.now in
    let calls = c.args.calls.now in
    let end = after_all m w (fresh board rows) calls in
    let formed : Formed board rows (after_all m w (fresh board rows) calls) = always_formed board rows m w laws calls in
    record {
      promise = record {
        room = omega arith;
        answers_are = c.run_all.ensures.answers;
        rows_are = c.run_all.ensures.rows;
        marks_are = c.run_all.ensures.marks;
        rows_long = ap length c.run_all.ensures.rows ∙ formed.long;
        rows_past = ap (drop 64) c.run_all.ensures.rows ∙ formed.rest;
        always = λ p. sheet_holds m w laws board rows (take p calls);
        at_end = by_parts m w board end c.run_all.new.rows c.run_all.result formed.same c.run_all.ensures.rows c.run_all.ensures.marks (sheet_holds m w laws board rows calls);
        marked_exactly = λ p core l. told_by_events w core m board rows (take p calls);
      };
    }
