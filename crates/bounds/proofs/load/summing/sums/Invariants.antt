use Rattle.std.proofs.Common.{◌+◌, ◌*◌, take}
use Rattle.bounds.proofs.load.summing.sums.Given as goal
use Rattle.bounds.specs.Loads.{AtMost, Total, every}

-- the loads before the index are added
abbrev pub invariant-loop-load : goal.invariant-loop-load
invariant-loop-load l =
    Total every l.window.length l.initial.sums (take l.load-index l.load-items) l.sums
    × AtMost (10000000 + l.load-index * 200000000000000) l.sums
