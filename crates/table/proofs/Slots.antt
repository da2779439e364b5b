-- The rows that the slots of `Tasks` stand for: a slot with a task is a row that counts, and an empty one is not.
use Rattle.std.proofs.Common.{◌≡◌, ℕ, ◌<◌, ◌≤◌, true, false, length, get_or, Some, None, Option, sym, ap, ◌∙◌, inl, inr, arith}
use Rattle.std.proofs.lemmas.List.{get_or-map, get_or_past, length-map}
use Rattle.std.proofs.lemmas.Bool.{cases_lt, cond-false, cond-true, le-ltb, lt-ltb}
use Rattle.table.proofs.Places.{no_task_from, no_task_past, task_from}
use Rattle.table.specs.Rows.{holds_task, is_task, past, row_at}
use Rattle.table.specs.Tasks.{listed, row_of, slot}
use Rattle.table.specs.declared.task.Task.{Task}
use Rattle.table.specs.declared.tasks.Tasks.{Tasks}

none_some : {X : Type 0} (x : X) → ◌≡◌ {A = Option X} None (Some x) → ⊥
none_some x e = let z : ◌≡◌ {A = ℕ} 0 1 = cc in omega arith

slot_in : (tasks : Tasks) (k : ℕ) → k < 64 → slot tasks k ≡ get_or tasks.slots k None
slot_in tasks k l = cond-true _ _ _ (lt-ltb k 64 l)

slot_out : (tasks : Tasks) (k : ℕ) → 64 ≤ k → slot tasks k ≡ None
slot_out tasks k l = cond-false _ _ _ (le-ltb k 64 l)

pub slot_below : (tasks : Tasks) (k : ℕ) (task : Task) → slot tasks k ≡ Some task → k < 64
slot_below tasks k task e =
    elim (cases_lt k 64) [
      | inl l ↦ l
      | inr g ↦ absurd (none_some task (sym (slot_out tasks k g) ∙ e))
    ]

pub slot_row : (tasks : Tasks) (k : ℕ) (task : Task) → slot tasks k ≡ Some task → row_at (listed tasks) k ≡ row_of (Some task)
slot_row tasks k task e =
    let read : get_or tasks.slots k None ≡ Some task = sym (slot_in tasks k (slot_below tasks k task e)) ∙ e in
    elim (cases_lt k (length tasks.slots)) [
      | inl l ↦ get_or-map row_of tasks.slots k None past l ∙ ap row_of read
      | inr g ↦ absurd (none_some task (sym (get_or_past tasks.slots k None g) ∙ read))
    ]

pub slot_task : (tasks : Tasks) (k : ℕ) (task : Task) → slot tasks k ≡ Some task → is_task (listed tasks) k ≡ true
slot_task tasks k task e = task_from (listed tasks) k (slot_below tasks k task e) (ap holds_task (slot_row tasks k task e) ∙ task.limits)

pub slot_none : (tasks : Tasks) (k : ℕ) → slot tasks k ≡ None → is_task (listed tasks) k ≡ false
slot_none tasks k e =
    elim (cases_lt k 64) [
      | inl below ↦
          no_task_from (listed tasks) k (elim (cases_lt k (length tasks.slots)) [
            | inl l ↦ ap holds_task (get_or-map row_of tasks.slots k None past l ∙ ap row_of (sym (slot_in tasks k below) ∙ e))
            | inr g ↦ ap holds_task (get_or_past (listed tasks) k past (omega (arith, length-map tasks.slots row_of)))
          ])
      | inr g ↦ no_task_past (listed tasks) k g
    ]
