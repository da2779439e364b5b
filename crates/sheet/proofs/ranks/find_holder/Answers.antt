use Rattle.sheet.proofs.ranks.find_holder.Goals as goal
use Rattle.sheet.specs.Editing.{has_rank}
use Rattle.std.proofs.Common.{rules, sym, refl, ◌∙◌}
use Rattle.std.proofs.lemmas.Iterator.{YieldsList-from_range}
use Rattle.std.proofs.lemmas.Iterator.Search.{find_from_yields_List}
use Rattle.std.proofs.lemmas.Iterator.Adapters.{option_map_id}
use Rattle.table.proofs.Firsts.{find_first}
use Rattle.table.specs.Sets.{members}
use borrow.Author.Tests.{tests}

pub returns : goal.returns
returns c =
    let test = has_rank c.args.rows.now (members c.args.tasks.now) c.args.rank in
    sym (option_map_id c.find.result)
    ∙ find_from_yields_List test _ _ c.find.result c.find.ensures.ran (YieldsList-from_range 0 64 64 refl refl) (λ x b q k. search (rules, tests))
    ∙ find_first test 64
