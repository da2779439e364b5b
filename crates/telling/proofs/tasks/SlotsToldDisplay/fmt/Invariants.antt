use Rattle.std.specs.Fmt.{HasWritten, IsPlainFormatter}
use Rattle.tablefile.specs.Parts.{laid}
use Rattle.telling.specs.Listing.{slot_at}
use Rattle.telling.proofs.tasks.SlotsToldDisplay.fmt.Given as goal

abbrev pub invariant-loop-number : goal.invariant-loop-number
invariant-loop-number g l =
    IsPlainFormatter l.initial.f → HasWritten g.W.Write.write_str_gives l.initial.f (laid l.number (slot_at l.board l.rows l.tasks)) l.f
