use Rattle.std.proofs.Common.{◌++◌, codes, get_or, take, sym, ap, ◌∙◌, arith, rules}
use Rattle.std.proofs.Output.{has_written_append, has_written_of_eq}
use Rattle.std.proofs.lemmas.List.{flat_map_more, take_all, take_more}
use Rattle.std.specs.List.{flat_map}
use Rattle.telling.proofs.hex.LineToldDisplay.fmt.Goals as goal
use Rattle.telling.specs.Hex.{byte_text, line_text}

pub loop-byte-preserved : goal.loop-byte-preserved
loop-byte-preserved g c = λ plain.
    let bytes = c.args.self.now.0.now in
    let i = c.loop-byte.byte-index in
    has_written_of_eq _ _ _ _ _
    (flat_map_more byte_text (codes " ") (take i bytes) (get_or bytes i 0) ∙ ap (λ xs. codes " " ++ flat_map byte_text xs) (sym (take_more bytes i 0 c.loop-byte-test.true)))
    (has_written_append _ _ _ _ _ _ (c.loop-byte.invariant plain) (search rules))

pub returns-clause-writes : goal.returns-clause-writes
unfolding line_text
returns-clause-writes g c = λ plain _.
    has_written_of_eq _ _ _ _ _ (ap (λ xs. codes " " ++ flat_map byte_text xs) (take_all _ _ (omega arith))) (c.loop-byte.invariant plain)
