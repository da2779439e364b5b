use Rattle.std.proofs.Common.{◌≡◌, ◌-◌, length, take, drop, ap, ◌∙◌}
use Rattle.std.proofs.lemmas.List.{drop_min, take_min, take_rest}
use Rattle.tablefile.proofs.parts.part_of.Goals as goal

pub returns : goal.returns
returns c =
    let bs = c.args.bytes.now in
    let at = c.min.result in
    let rest = take (length bs - at) (drop at bs) in
    let whole : rest ≡ drop c.args.from bs = take_rest bs at ∙ ap (λ n. drop n bs) c.min.ensures ∙ drop_min c.args.from bs in
    ap (λ n. take n rest) c.min-2.ensures ∙ take_min c.args.n rest ∙ ap (take c.args.n) whole
