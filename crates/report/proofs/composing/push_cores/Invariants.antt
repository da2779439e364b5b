use Rattle.std.proofs.Common.{◌≡◌, ◌+◌, ◌*◌, ◌≤◌, ◌++◌, length}
use Rattle.report.proofs.composing.push_cores.Given as goal
use Rattle.report.specs.Report.{line_of_core}
use Rattle.report.specs.Texts.{shown}
use Rattle.tablefile.specs.Parts.{laid}

-- the lines of the cores before this one were added
abbrev pub invariant-loop-k : goal.invariant-loop-k
invariant-loop-k l = (shown l.text ≡ shown l.initial.text ++ laid l.k (line_of_core l.marks)) × (length (shown l.text) ≤ length (shown l.initial.text) + 40 * l.k)
