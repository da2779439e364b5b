use Rattle.std.proofs.Common.{sym, ◌∙◌}
use Rattle.naive.proofs.Tasks.{can_be}
use Rattle.naive.proofs.recurrence.Question.bound.Goals as goal

pub returns-then-me-self : goal.returns-then-me-self
returns-then-me-self c =
    let asked = c.args.self.now in
    record { answer = can_be asked.board asked.rows.now asked.number c.in_ok-me.me c.first_window.result (sym c.task.ensures ∙ c.in_ok-me.was) c.if-me-self.true c.first_window.ensures }
