use Rattle.std.proofs.Common.{rules, ◌==◌, ◌∙◌}
use Rattle.std.proofs.lemmas.Iterator.{YieldsList-from_slice}
use Rattle.std.proofs.lemmas.Iterator.Search.{all_from_yields_List}
use Rattle.std.proofs.lemmas.Iterator.Adapters.{YieldsList-from_skip}
use Rattle.table.proofs.Lacking.{all_had_is}
use Rattle.table.proofs.row.are_had.Goals as goal

pub returns : goal.returns
returns c =
    all_from_yields_List (λ x. x == 0) _ _ _ c.all.ensures.ran (YieldsList-from_skip c.args.resources (YieldsList-from_slice c.args.xs.now cc) c.skip.ensures.count) (λ x b q k. search rules)
    ∙ all_had_is c.args.resources c.args.xs.now c.told-xs
