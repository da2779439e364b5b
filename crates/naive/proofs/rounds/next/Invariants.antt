use Rattle.naive.proofs.rounds.next.Given as goal
use Rattle.naive.specs.Rounds.{AreEntries}

-- the entries of the numbers below are made
abbrev pub invariant-loop-number : goal.invariant-loop-number
invariant-loop-number l = AreEntries l.board l.rows l.entry-items l.number
