use Rattle.std.specs.Fmt.{HasWritten, IsPlainFormatter}
use Rattle.tablefile.specs.Parts.{laid}
use Rattle.telling.specs.Tasks.{resource_text}
use Rattle.telling.proofs.task.ResourcesToldDisplay.fmt.Given as goal

abbrev pub invariant-loop-r : goal.invariant-loop-r
invariant-loop-r g l = IsPlainFormatter l.initial.f → HasWritten g.W.Write.write_str_gives l.initial.f (laid l.r-counter (resource_text l.self.figures)) l.f
