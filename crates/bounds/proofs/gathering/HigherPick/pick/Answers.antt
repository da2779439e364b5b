use Rattle.std.proofs.Common.{◌≡◌, Bool, true, false, not, ◌&&◌, ◌||◌, subst, sym, refl, ap, ◌∙◌}
use Rattle.bounds.proofs.gathering.HigherPick.pick.Goals as goal
use Rattle.bounds.specs.Gathering.{Picked, higher_form}
use Rattle.std.proofs.lemmas.Bool.{and_from, and_right, false≢true}
use Rattle.table.proofs.Places.{off_core, on_core_from, other_core}
use Rattle.table.proofs.Slots.{slot_none, slot_row, slot_task}
use Rattle.table.specs.declared.row.Row.{Row}

-- a number that is not sent away is another member
another : (a b : Bool) → (not a || b) ≡ false → (a && not b) ≡ true
another true true e = absurd (false≢true (sym e))
another true false e = refl
another false b e = absurd (false≢true (sym e))

pub returns-in_err-task : goal.returns-in_err-task
returns-in_err-task c = subst (Picked _ _) (sym c.from_residual.ensures) (and_right _ _ (off_core _ _ c.args.number (slot_none c.args.self.now.tasks.now c.args.number (sym c.in_err-task.ensures.answer))))

pub returns-then-task-self : goal.returns-then-task-self
returns-then-task-self c =
    let row = slot_row c.args.self.now.tasks.now c.args.number c.in_ok-task.task (sym c.in_ok-task.ensures.answer) in
    and_right _ _ (other_core _ _ c.args.number (λ e. c.if-task-self.true (sym (ap (λ (q : Row). q.core) row) ∙ e)))

pub returns : goal.returns
returns c =
    let tasks = c.args.self.now.tasks.now in
    let j = c.args.number in
    let task = c.in_ok-task.task in
    let found = sym c.in_ok-task.ensures.answer in
    let row = slot_row tasks j task found in (
      and_from _ _ (another _ _ c.if-self-number.false) (on_core_from _ _ j (slot_task tasks j task found) (ap (λ (q : Row). q.core) row ∙ c.if-task-self.false)),
      c.higher.ensures ∙ ap higher_form (sym row),
    )
