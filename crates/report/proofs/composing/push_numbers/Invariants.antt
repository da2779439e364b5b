use Rattle.std.proofs.Common.{◌≡◌, ◌+◌, ◌*◌, ◌≤◌, ◌++◌, length}
use Rattle.report.proofs.composing.push_numbers.Given as goal
use Rattle.report.specs.Report.{line_of_number}
use Rattle.report.specs.Texts.{shown}
use Rattle.tablefile.specs.Parts.{laid}

-- the lines of the numbers before this one were added
abbrev pub invariant-loop-number : goal.invariant-loop-number
invariant-loop-number g l =
    (shown l.text ≡ shown l.initial.text ++ laid l.number (line_of_number (g.T.Test.meaning l.asking.test.now l.asking.board l.asking.rows.now) l.asking.rows.now))
    × (length (shown l.text) ≤ length (shown l.initial.text) + 84 * l.number)
