-- The numbers of the tasks: how many there are, and that each has a task.
use Rattle.std.proofs.Common.{◌≡◌, ℕ, zero, suc, ◌+◌, ◌<◌, ◌≤◌, Bool, true, false, cond, List, [], ◌∷◌, ◌++◌, length, get_or, drop, refl, ap, ◌∙◌, ⊎_elim, add-one, arith}
use Rattle.std.proofs.lemmas.List.{append-nil, length-append}
use Rattle.std.proofs.lemmas.List.Elements.{All-append, All-drop, All-take}
use Rattle.std.specs.List.{All}
use Rattle.std.proofs.lemmas.Bool.{both_ways, cases_lt}
use Rattle.table.proofs.Places.{no_task_outside}
use Rattle.table.specs.Rows.{is_task}
use Rattle.table.specs.declared.row.Row.{Row}
use Rattle.tablefile.specs.Numbers.{numbers, tasks_below}
use Rattle.tablefile.specs.Parts.{part}

pub tasks_none : (rows : List Row) → tasks_below rows 0 ≡ []
unfolding tasks_below
tasks_none rows = refl

pub tasks_in : (rows : List Row) (i : ℕ) → is_task rows i ≡ true → tasks_below rows (i + 1) ≡ tasks_below rows i ++ (i ∷ [])
unfolding tasks_below
tasks_in rows i e = ap (tasks_below rows) (add-one i) ∙ ap (λ b. tasks_below rows i ++ cond b (i ∷ []) []) e

pub tasks_out : (rows : List Row) (i : ℕ) → is_task rows i ≡ false → tasks_below rows (i + 1) ≡ tasks_below rows i
unfolding tasks_below
tasks_out rows i e = ap (tasks_below rows) (add-one i) ∙ ap (λ b. tasks_below rows i ++ cond b (i ∷ []) []) e ∙ append-nil (tasks_below rows i)

pub length_tasks : (rows : List Row) (n : ℕ) → length (tasks_below rows n) ≤ n
unfolding tasks_below
length_tasks rows zero = omega arith
length_tasks rows (suc n) =
    let before = length_tasks rows n in
    elim (is_task rows n) as (λ b. length (tasks_below rows n ++ cond b (n ∷ []) []) ≤ suc n) [
      | true ↦ omega (arith, length-append (tasks_below rows n) (n ∷ []), before)
      | false ↦ omega (arith, length-append (tasks_below rows n) [], before)
    ]

-- what a loop that gathers them needs
pub ruleset gathered = (tasks_none, tasks_in, tasks_out, length_tasks)

-- each number that is listed has a task
abbrev Tasks : List Row → List ℕ → Type 0
Tasks rows ns = All (λ n. is_task rows n ≡ true) ns

own_task : (rows : List Row) (n : ℕ) (b : Bool) → is_task rows n ≡ b → Tasks rows (cond b (n ∷ []) [])
own_task rows n true e k d h = let first : k ≡ 0 = omega arith in ap (λ i. is_task rows (get_or (n ∷ []) i d)) first ∙ e
own_task rows n false e k d h = absurd (omega arith)

each_task : (rows : List Row) (n : ℕ) → Tasks rows (tasks_below rows n)
unfolding tasks_below
each_task rows zero = λ k d h. absurd (omega arith)
each_task rows (suc n) =
    All-append (λ n. is_task rows n ≡ true) (tasks_below rows n) (cond (is_task rows n) (n ∷ []) []) (each_task rows n) (own_task rows n (is_task rows n) refl)

-- a number that has a task is that of a row
pub task_within : (rows : List Row) (n : ℕ) → is_task rows n ≡ true → n < length rows
task_within rows n e =
    ⊎_elim (λ lt. lt)
    (λ le. absurd (both_ways (is_task rows n) (no_task_outside rows n le) e))
    (cases_lt n (length rows))

pub numbers_few : (rows : List Row) → length (numbers rows) ≤ 64
unfolding numbers
numbers_few rows = length_tasks rows 64

-- and so have those of a part of the list
pub part_tasks : (rows : List Row) (at n p : ℕ) → p < length (part (numbers rows) at n) → is_task rows (get_or (part (numbers rows) at n) p 0) ≡ true
unfolding numbers
part_tasks rows at n p h =
    let P : ℕ → Type 0 = λ n. is_task rows n ≡ true in
    All-take P n (drop at (numbers rows)) (All-drop P at (numbers rows) (each_task rows 64)) p 0 h
