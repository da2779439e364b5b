use Rattle.std.proofs.Common.{◌≡◌, ◌-◌, ◌*◌, ◌≤◌, length}
use Rattle.ordering.proofs.search.fill_places.Given as goal
use Rattle.ordering.specs.Search.{after, fill, search_for}
use Rattle.shortlist.specs.Items.{items}
use Rattle.table.specs.Sets.{members}

-- what is placed and tried, and what the rest comes to, is the whole search
abbrev pub invariant-loop-placed : goal.invariant-loop-placed
invariant-loop-placed g l =
    let ask = g.T.Test.meaning l.asking.test.now l.asking.board l.asking.rows.now in
    (after (items l.numbers) l.trials (fill ask (members l.left) (l.count - l.placed)) ≡ search_for ask (members l.initial.left))
    × (l.trials ≤ 64 * l.placed)
    × (l.count ≤ 64)
    × (length (items l.numbers) ≡ l.placed)
