use Rattle.std.specs.Fmt.{HasWritten, IsPlainFormatter}
use Rattle.tablefile.specs.Parts.{laid}
use Rattle.telling.specs.Times.{has_task, time_at}
use Rattle.telling.proofs.settled.TimesToldDisplay.fmt.Given as goal

abbrev pub invariant-loop-number : goal.invariant-loop-number
invariant-loop-number g l =
    IsPlainFormatter l.initial.f → HasWritten g.W.Write.write_str_gives l.initial.f (laid l.number (time_at (has_task l.self.tasks.now) l.self.bounds.now)) l.f
