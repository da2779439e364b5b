use Rattle.sheet.proofs.marks.loosen.Given as goal
use Rattle.sheet.specs.Marks.{narrowed}
use Rattle.std.proofs.Common.{◌≡◌, ◌++◌, map, take, drop}

-- the first marks are narrowed
abbrev pub invariant-loop-mark : goal.invariant-loop-mark
invariant-loop-mark l = l.marks ≡ map narrowed (take l.mark-index l.initial.marks) ++ drop l.mark-index l.initial.marks
