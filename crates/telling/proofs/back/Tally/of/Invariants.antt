use Rattle.std.proofs.Common.{◌≡◌, ℕ, ◌-◌, ◌^◌, ◌<◌, min}
use Rattle.tablefile.specs.Reading.{count_at}
use Rattle.telling.proofs.back.Tally.of.Given as goal
use Rattle.telling.specs.Reading.{BlockSame, blocks_in, total}

abbrev pub invariant-loop-block : goal.invariant-loop-block
invariant-loop-block l =
    (l.tally.read ≡ min (total (count_at l.bytes) l.block) (2 ^ 64 - 1))
    × (((k : ℕ) → k < blocks_in l.bytes → BlockSame l.rows l.bytes k) → l.tally.same ≡ min (total (count_at l.bytes) l.block) (2 ^ 64 - 1))
