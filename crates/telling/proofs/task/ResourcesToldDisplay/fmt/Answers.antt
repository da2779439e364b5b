use Rattle.std.proofs.Common.{ap, arith, rules}
use Rattle.std.proofs.Output.{has_written_of_eq}
use Rattle.std.proofs.lemmas.Grind.{common_steps}
use Rattle.tablefile.specs.Parts.{laid}
use Rattle.telling.proofs.Written.{written_more, written_none}
use Rattle.telling.proofs.task.ResourcesToldDisplay.fmt.Goals as goal
use Rattle.telling.specs.Tasks.{resource_text, resources_text}

pub loop-r-init : goal.loop-r-init
loop-r-init g c = λ plain. written_none _ _ _ plain

pub loop-r-preserved : goal.loop-r-preserved
loop-r-preserved g c = λ plain. written_more _ _ _ _ _ _ (c.loop-r.invariant plain) (first_of (search rules, grind (arith, common_steps)))

pub returns-clause-writes : goal.returns-clause-writes
unfolding resources_text
returns-clause-writes g c = λ plain _.
    has_written_of_eq _ _ _ _ _ (ap (λ k. laid k (resource_text c.args.self.now.figures)) (omega arith)) (c.loop-r.invariant plain)
