use Rattle.std.proofs.Common.{ap, arith, rules}
use Rattle.std.proofs.Output.{has_written_of_eq}
use Rattle.std.proofs.lemmas.Grind.{common_steps}
use Rattle.tablefile.specs.Parts.{laid}
use Rattle.telling.proofs.Written.{written_more, written_none}
use Rattle.telling.proofs.settled.TimesToldDisplay.fmt.Goals as goal
use Rattle.telling.specs.Times.{has_task, time_at, times_text}

pub loop-number-init : goal.loop-number-init
loop-number-init g c = λ plain. written_none _ _ _ plain

pub loop-number-preserved : goal.loop-number-preserved
loop-number-preserved g c = λ plain. written_more _ _ _ _ _ _ (c.loop-number.invariant plain) (first_of (search rules, grind (arith, common_steps)))

pub returns-clause-writes : goal.returns-clause-writes
unfolding times_text
returns-clause-writes g c = λ plain _.
    has_written_of_eq _ _ _ _ _
    (ap (λ k. laid k (time_at (has_task c.args.self.now.tasks.now) c.args.self.now.bounds.now)) (omega arith))
    (c.loop-number.invariant plain)
