use Rattle.std.proofs.Common.{rules, ◌≡◌, ◌∙◌}
use Rattle.bounds.proofs.Checked.{cost_in, found_cost}
use Rattle.bounds.proofs.response.Ranked.cost_at.Goals as goal

pub returns : goal.returns
returns c =
    let self = c.args.self.now in
    let read : c.map_or.result ≡ cost_in self.table.board self.rows.now self.table.tasks self.checked c.task.result = search rules in
    read ∙ found_cost self.table.board self.rows.now self.table.tasks self.checked c.args.number c.task.result c.task.ensures
