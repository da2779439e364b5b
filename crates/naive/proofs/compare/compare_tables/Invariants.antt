use Rattle.std.proofs.Common.{◌≡◌}
use Rattle.naive.proofs.compare.compare_tables.Given as goal

-- a settling and a file for each table so far
abbrev pub invariant-loop : goal.invariant-loop
invariant-loop l = (l.compared.settlings.questions ≡ l.counter) × (l.compared.files.questions ≡ l.counter)
