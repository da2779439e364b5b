use Rattle.std.proofs.Common.{◌≡◌, eqb, drop, take, ap, ◌∙◌, arith}
use Rattle.std.proofs.lemmas.Grind.{common_steps}
use Rattle.std.proofs.lemmas.List.{length-drop, take_all}
use Rattle.tablefile.proofs.checking.has_check.Goals as goal
use Rattle.tablefile.specs.Spelling.{spells}

pub returns : goal.returns
returns c =
    let bs = c.args.block.now in
    let last : take 2 (drop 510 bs) ≡ drop 510 bs = take_all 2 (drop 510 bs) (omega (arith, length-drop 510 bs, c.told-block)) in
    let read : c.from_be_bytes.result ≡ spells (take 2 (drop 510 bs)) = grind (arith, common_steps) in
    ap (λ n. eqb n c.reckon_check.result) (read ∙ ap spells last) ∙ ap (eqb (spells (drop 510 bs))) c.reckon_check.ensures
