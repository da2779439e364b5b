use Rattle.bounds.proofs.Checked.{checked_on_board}
use Rattle.bounds.specs.Tested.{ahead_laws}
use Rattle.bounds.proofs.response.Ranked.bound_at.Goals as goal
use Rattle.bounds.specs.Bounds.{ahead_bound}
use Rattle.bounds.specs.Lengths.{length_of}
use Rattle.bounds.specs.Rounds.{bound_after}
use Rattle.std.proofs.lemmas.Bool.{cond-false, cond-true}
use Rattle.table.specs.Sets.{members}
use Rattle.table.specs.Tasks.{listed}
use Rattle.std.proofs.Common.{sym, ap, ◌∙◌}

pub returns-in-Some : goal.returns-in-Some
unfolding bound_after
returns-in-Some c =
    let self = c.args.self.now in
    let board = self.table.board in
    let rows = self.rows.now in
    let i = c.args.number in
    let ahead = length_of c.args.rivals.now.ahead.of in
    let above = members c.higher_ranked.result in
    c.ask.ensures
    ∙ ap (λ t. ahead_bound ahead t.board (listed t.tasks) i above) c.requires
    ∙ ap (λ r. ahead_bound ahead board r i above) self.checked
    ∙ sym ((ahead_laws ahead).ranks board rows i above)
    ∙ ap (ahead_bound ahead board rows i) c.higher_ranked.ensures.answer
    ∙ sym (cond-true _ _ _ (sym (checked_on_board board rows self.table.tasks self.checked i) ∙ c.in-Some.ensures.0))

pub returns-in-None : goal.returns-in-None
unfolding bound_after
returns-in-None c =
    let self = c.args.self.now in
    sym (cond-false _ _ _ (sym (checked_on_board self.table.board self.rows.now self.table.tasks self.checked c.args.number) ∙ c.in-None.ensures))
