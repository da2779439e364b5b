-- The code's answers as outcomes of the search.
use Rattle.std.specs.Prelude.{ℕ, List, Ok, Err, Result}
use Rattle.ordering.specs.Search.{Outcome, ordered, refused}
use Rattle.ordering.specs.declared.order.Found.{Found}
use Rattle.ordering.specs.declared.order.NoOrder.{NoOrder}
use Rattle.ordering.specs.declared.order.Order.{Order}
use Rattle.shortlist.specs.Items.{items}

-- the numbers of an order, from the lowest place up
abbrev pub numbers_of : Order → List ℕ
numbers_of order = items order.numbers

abbrev pub outcome_of : Result Found NoOrder → Outcome
outcome_of (Ok found) = ordered (numbers_of found.order) found.trials
outcome_of (Err none) = refused none.trials none.unplaced
