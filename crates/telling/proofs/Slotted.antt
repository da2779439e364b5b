-- What is told by slots is what is told by rows.
use Rattle.bounds.specs.Rounds.{settled}
use Rattle.std.proofs.Common.{◌≡◌, ℕ, true, false, List, ◌++◌, codes, Some, None, Option, sym, refl, ap, ◌∙◌, inl, inr, is_some}
use Rattle.std.proofs.lemmas.Bool.{both_ways, cases_Bool, cond-false, cond-true}
use Rattle.table.proofs.Plains.{Alike, alike_no_task, alike_task, plain_alike, plain_figures}
use Rattle.table.proofs.Slots.{slot_none, slot_row, slot_task}
use Rattle.table.specs.Rows.{is_task, plain, row_at}
use Rattle.table.specs.Tasks.{listed, slot}
use Rattle.table.specs.declared.board.Board.{Board}
use Rattle.table.specs.declared.row.Row.{Row}
use Rattle.table.specs.declared.task.Task.{Task}
use Rattle.table.specs.declared.tasks.Tasks.{Tasks}
use Rattle.tablefile.proofs.Laid.{laid_same}
use Rattle.tablefile.specs.Parts.{laid}
use Rattle.telling.specs.Listing.{number_text, slot_at, slot_text, slots_text, tasks_text}
use Rattle.telling.specs.Tasks.{task_text}
use Rattle.telling.specs.Times.{has_task, settled_text}
use mathlib.Core.Path.{fun_ext}

module _ (rows : List Row) (tasks : Tasks) (e : listed tasks ≡ plain rows) where
  alike : (x : ℕ) → Alike x rows (plain rows)
  alike x = plain_alike x rows

  -- a slot with a task: the row of that number counts, on that core and with those figures
  full : (k : ℕ) (task : Task) → slot tasks k ≡ Some task → is_task rows k ≡ true
  full k task is = elim (cases_Bool (is_task rows k)) [
    | inl there ↦ there
    | inr none ↦
        absurd (both_ways (is_task (plain rows) k)
        (alike_no_task rows (plain rows) alike k none)
        (ap (λ xs. is_task xs k) (sym e) ∙ slot_task tasks k task is))
  ]

  row_is : (k : ℕ) (task : Task) → slot tasks k ≡ Some task → (task.core ≡ (row_at rows k).core) × (task.figures ≡ (row_at rows k).figures)
  row_is k task is =
      let there = full k task is in
      let row = sym (slot_row tasks k task is) ∙ ap (λ xs. row_at xs k) e in (
        ap (λ (q : Row). q.core) row ∙ sym (alike_task rows (plain rows) alike k there).1,
        ap (λ (q : Row). q.figures) row ∙ plain_figures rows k there,
      )

  -- an empty slot: it does not
  free : (k : ℕ) → slot tasks k ≡ None → is_task rows k ≡ false
  free k is = elim (cases_Bool (is_task rows k)) [
    | inl there ↦
        absurd (both_ways (is_task (plain rows) k)
        (ap (λ xs. is_task xs k) (sym e) ∙ slot_none tasks k is)
        (alike_task rows (plain rows) alike k there).0)
    | inr none ↦ none
  ]

  pub has_task_is : has_task tasks ≡ is_task rows
  has_task_is = fun_ext (λ k. go k (slot tasks k) refl)
    where
      go : (k : ℕ) (o : Option Task) → slot tasks k ≡ o → has_task tasks k ≡ is_task rows k
      go k None is = ap is_some is ∙ sym (free k is)
      go k (Some task) is = ap is_some is ∙ sym (full k task is)

  slot_text_is : (board : Board) (k : ℕ) (o : Option Task) → slot tasks k ≡ o → slot_text board rows k o ≡ number_text board rows k
  unfolding slot_text number_text
  slot_text_is board k None is = sym (cond-false _ _ _ (free k is))
  slot_text_is board k (Some task) is =
      let row = row_is k task is in
      ap (λ core. task_text board rows k core task.figures ++ codes "\n\n") row.0
      ∙ ap (λ figures. task_text board rows k (row_at rows k).core figures ++ codes "\n\n") row.1
      ∙ sym (cond-true _ _ _ (full k task is))

  pub tasks_told : (board : Board) → slots_text board rows tasks ++ settled_text (has_task tasks) (settled board rows) ≡ tasks_text board rows
  unfolding slots_text tasks_text
  tasks_told board =
      ap (λ text. text ++ settled_text (has_task tasks) (settled board rows)) (laid_same 64 (slot_at board rows tasks) (number_text board rows) (λ k _. slot_text_is board k (slot tasks k) refl))
      ∙ ap (λ has. laid 64 (number_text board rows) ++ settled_text has (settled board rows)) has_task_is
