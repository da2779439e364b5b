use Rattle.bounds.proofs.prepared.CheckedTable.own.Goals as goal
use Rattle.bounds.specs.Demand.{above}
use Rattle.bounds.specs.Gathering.{Gathers, higher_form}
use Rattle.shortlist.specs.Items.{items}
use Rattle.table.proofs.Places.{on_board_core}
use Rattle.table.specs.Rows.{on_core, row_at}
use Rattle.table.specs.Sets.{members}
use Rattle.table.specs.Tasks.{listed}
use Rattle.table.specs.declared.row.Row.{Row}
use Rattle.std.proofs.Common.{not, ◌&&◌, eqb, sym, ap, subst, arith}

pub invariant_of-gather : goal.invariant_of-gather
invariant_of-gather c =
    let found = c.in_ok-task.ensures in
    let board = c.args.self.now.board in
    record { core_low = omega (arith, on_board_core board (listed c.args.self.now.tasks) c.args.number found.0, ap (λ (q : Row). q.core) found.1, board.few_cores) }

pub returns : goal.returns
unfolding above
returns c =
    let found = c.in_ok-task.ensures in
    let rows = listed c.args.self.now.tasks in
    let i = c.args.number in
    let set = members c.args.above.now in
    let core_is = sym (ap (λ (q : Row). q.core) found.1) in
    record {
      found = found.0;
      core_is = core_is;
      figures_is = sym (ap (λ (q : Row). q.figures) found.1);
      gathers = subst (λ x. Gathers (λ j. (set j && not (eqb j i)) && on_core rows x j) (λ j. higher_form (row_at rows j)) 64 (items c.gather-higher.result)) core_is c.gather-higher.ensures;
    }
