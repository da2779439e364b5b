use Rattle.std.proofs.Common.{ap, arith, rules}
use Rattle.std.proofs.Output.{has_written_of_eq}
use Rattle.std.proofs.lemmas.Grind.{common_steps}
use Rattle.tablefile.specs.Parts.{laid}
use Rattle.telling.proofs.Written.{written_more, written_none}
use Rattle.telling.proofs.tasks.SlotsToldDisplay.fmt.Goals as goal
use Rattle.telling.specs.Listing.{slot_at, slots_text}

pub loop-number-init : goal.loop-number-init
loop-number-init g c = λ plain. written_none _ _ _ plain

pub loop-number-preserved : goal.loop-number-preserved
loop-number-preserved g c = λ plain. written_more _ _ _ _ _ _ (c.loop-number.invariant plain) (first_of (search rules, grind (arith, common_steps)))

pub returns-clause-writes : goal.returns-clause-writes
unfolding slots_text
returns-clause-writes g c = λ plain _.
    let told = c.args.self.now in
    has_written_of_eq _ _ _ _ _ (ap (λ k. laid k (slot_at told.board.now told.rows.now told.tasks.now)) (omega arith)) (c.loop-number.invariant plain)
