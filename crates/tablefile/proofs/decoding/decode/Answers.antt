use Rattle.std.proofs.Common.{◌≡◌, ap, ◌∙◌, arith, rules}
use Rattle.tablefile.proofs.Kept.{bytes_kept}
use Rattle.tablefile.proofs.decoding.decode.Goals as goal
use Rattle.tablefile.specs.Layout.{record_bytes}
use Rattle.tablefile.specs.Reading.{spelled_record}

pub returns-in-Some-clause-nothing_lost : goal.returns-in-Some-clause-nothing_lost
returns-in-Some-clause-nothing_lost c long =
    let bs = c.args.bytes.now in
    let same : c.in-Some.bytes.now ≡ bs = search rules in
    ap record_bytes (c.spelled_record.ensures ∙ ap spelled_record same)
    ∙ bytes_kept bs long (λ i. omega (arith, c.type_inv.bytes i))
