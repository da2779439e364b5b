use Rattle.std.proofs.Common.{◌≡◌, ◌+◌, ◌-◌, ◌^◌, min}
use Rattle.telling.proofs.back.Tally.and_block.Given as goal
use Rattle.telling.specs.Reading.{BlockSame}

abbrev pub invariant-loop-position : goal.invariant-loop-position
invariant-loop-position l =
    (l.tally.read ≡ min (l.initial.tally.read + l.position) (2 ^ 64 - 1))
    × (BlockSame l.rows l.reader.bytes.now l.block → l.tally.same ≡ min (l.initial.tally.same + l.position) (2 ^ 64 - 1))
