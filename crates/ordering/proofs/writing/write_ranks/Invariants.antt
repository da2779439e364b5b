use Rattle.std.proofs.Common.{◌≡◌, ◌-◌, drop}
use Rattle.ordering.proofs.writing.write_ranks.Given as goal
use Rattle.ordering.specs.Writing.{ranked_by}

-- writing what is left gives what writing all gives
abbrev pub invariant-loop-place : goal.invariant-loop-place
invariant-loop-place l = ranked_by l.rows (drop l.place l.number-items) (l.n - l.place) ≡ ranked_by l.initial.rows l.number-items l.n
