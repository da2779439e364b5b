use Rattle.std.proofs.Common.{◌%◌, sum, ap, ◌∙◌}
use Rattle.std.proofs.lemmas.List.{take_all}
use Rattle.examples.proofs.files.sum_of.Goals as goal
use Rattle.tablefile.specs.Check.{check_of}

pub returns : goal.returns
unfolding check_of
returns c = c.loop-byte.invariant ∙ ap (λ xs. sum xs % 65536) (take_all c.loop-byte.byte-index c.args.bytes.now c.loop-byte-test.false)
