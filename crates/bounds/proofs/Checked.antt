-- What tasks that were checked once say: which are on the board, and what the rows say that they came from.
use Rattle.std.proofs.Common.{◌≡◌, ℕ, ◌<◌, ◌≤◌, Bool, true, false, cond, ltb, List, Some, None, Option, MatchOption, sym, refl, ap, ◌∙◌, subst}
use Rattle.bounds.specs.Demand.{cost}
use Rattle.bounds.specs.Questions.{Found}
use Rattle.std.proofs.lemmas.Bool.{cond-false, cond-true, ltb-false, ltb-true}
use Rattle.std.proofs.lemmas.Option.{none-some}
use Rattle.std.specs.Bool.{then_some}
use Rattle.table.proofs.Places.{off_board, off_cores, on_board_from, on_board_task}
use Rattle.table.proofs.Plains.{plain_figures, plain_on_board}
use Rattle.table.proofs.Slots.{slot_none, slot_row, slot_task}
use Rattle.table.specs.Rows.{on_board, plain, row_at}
use Rattle.table.specs.Tasks.{listed, row_of, slot}
use Rattle.table.specs.declared.board.Board.{Board}
use Rattle.table.specs.declared.row.Row.{Row}
use Rattle.table.specs.declared.task.Task.{Task}
use Rattle.table.specs.declared.tasks.Tasks.{Tasks}

-- of the tasks, those on a core of the board are kept
pub kept : (board : Board) (tasks : Tasks) (j : ℕ) (R : Task → Bool → Type 0) → ((task : Task) (b : Bool) → R task b → b ≡ ltb task.core board.cores) → (o r : Option Task) → slot tasks j ≡ o → MatchOption o (r ≡ None) (λ task. (b : Bool) × R task b × (r ≡ then_some b task)) → Found board (listed tasks) j r
kept board tasks j R tested None None at h = off_board board (listed tasks) j (slot_none tasks j at)
kept board tasks j R tested None (Some task) at h = absurd (none-some task (sym h))
kept board tasks j R tested (Some task) r at h = go (ltb task.core board.cores) refl r (h.2 ∙ ap (λ b. then_some b task) (tested task h.0 h.1))
  where
    row : row_at (listed tasks) j ≡ row_of (Some task)
    row = slot_row tasks j task at

    go : (b : Bool) → ltb task.core board.cores ≡ b → (r : Option Task) → r ≡ then_some (ltb task.core board.cores) task → Found board (listed tasks) j r
    go true on r e = subst (Found board (listed tasks) j) (sym (e ∙ ap (λ b. then_some b task) on)) (on_board_from board (listed tasks) j (slot_task tasks j task at) (subst (λ (q : Row). q.core < board.cores) (sym row) (ltb-true task.core board.cores on)), row)
    go false off r e = subst (Found board (listed tasks) j) (sym (e ∙ ap (λ b. then_some b task) off)) (off_cores board (listed tasks) j (subst (λ (q : Row). board.cores ≤ q.core) (sym row) (ltb-false task.core board.cores off)))

module _ (board : Board) (rows : List Row) (tasks : Tasks) (checked : listed tasks ≡ plain rows) where
  pub checked_on_board : (k : ℕ) → on_board board (listed tasks) k ≡ on_board board rows k
  checked_on_board k = ap (λ r. on_board board r k) checked ∙ plain_on_board board rows k

  pub checked_cost : (k : ℕ) (task : Task) → on_board board (listed tasks) k ≡ true → row_at (listed tasks) k ≡ row_of (Some task) → task.figures.cost ≡ cost rows k
  checked_cost k task on row =
      ap (λ (q : Row). q.figures.cost) (sym row ∙ ap (λ r. row_at r k) checked)
      ∙ ap (λ f. f.cost) (plain_figures rows k (on_board_task board rows k (sym (checked_on_board k) ∙ on)))

  -- the cost of a task that is found, or 0
  abbrev pub cost_in : Option Task → ℕ
  cost_in None = 0
  cost_in (Some task) = task.figures.cost

  pub found_cost : (k : ℕ) (o : Option Task) → Found board (listed tasks) k o → cost_in o ≡ cond (on_board board rows k) (cost rows k) 0
  found_cost k None off = sym (cond-false _ _ _ (sym (checked_on_board k) ∙ off))
  found_cost k (Some task) found = checked_cost k task found.0 found.1 ∙ sym (cond-true _ _ _ (sym (checked_on_board k) ∙ found.0))
