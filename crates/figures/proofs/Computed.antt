-- The table, computed.
use Rattle.bounds.specs.Bounds.{ahead_bound, composable_bound, deadline_bound}
use Rattle.bounds.specs.Demand.{above, execution, releases, total_sensitivity, total_stress}
use Rattle.bounds.specs.Rounds.{bound_after, response, round_after, rounds, same, settled, start}
use Rattle.bounds.specs.Rules.{contention}
use Rattle.bounds.specs.Sums.{sum_to}
use Rattle.figures.specs.Figures.{all_hold, figures, holds}
use Rattle.least.specs.Least.{first_from, solution}
use Rattle.ordering.specs.Search.{fill}
use Rattle.table.specs.Firsts.{first_that}
use Rattle.table.specs.Limits.{in_limits}
use Rattle.table.specs.Ranks.{higher_ranked}
use Rattle.table.specs.Rows.{is_task, on_board, on_core}
use Rattle.table.specs.Sets.{count_below, without}
use Rattle.std.proofs.Common.{◌≡◌, true, refl}

pub figures_hold : all_hold holds figures ≡ true
unfolding ahead_bound start bound_after round_after same rounds response settled first_that fill without count_below composable_bound deadline_bound above execution releases total_sensitivity total_stress contention sum_to first_from solution in_limits higher_ranked is_task on_board on_core
figures_hold = refl
