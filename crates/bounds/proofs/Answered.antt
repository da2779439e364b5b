-- The climb over a question's right side answers the bound by the rule: the two are the same function, it rises, and
-- the limit is the task's deadline, which is no longer than the longest window.
use Rattle.std.proofs.Common.{◌≡◌, ℕ, ◌≤◌, min, Bool, true, false, cond, List, Some, None, Option, sym, refl, ap, ◌∙◌, subst, arith}
use Rattle.bounds.specs.Agreeing.{lesser_alike}
use Rattle.bounds.specs.Bounds.{ahead_bound, bound_by, deadline_bound}
use Rattle.bounds.specs.Demand.{core, deadline}
use Rattle.bounds.specs.Lengths.{length_of}
use Rattle.bounds.specs.Questions.{Asks, Deadlines, deadline_in}
use Rattle.bounds.specs.Rules.{Rule, deadline_rule, lesser_rule}
use Rattle.bounds.specs.declared.question.Own.{Own}
use Rattle.least.proofs.Solutions.{solution_same}
use Rattle.least.specs.Least.{Rising, solution}
use Rattle.std.proofs.lemmas.Bool.{both_ways, cond-false, cond-true}
use Rattle.table.proofs.Limited.{limited}
use Rattle.table.proofs.Places.{on_board_task, on_core_from, on_core_task}
use Rattle.table.proofs.Plains.{alike_self}
use Rattle.table.proofs.Slots.{slot_none, slot_row}
use Rattle.table.specs.Rows.{is_task, on_board}
use Rattle.table.specs.Sets.{Set}
use Rattle.table.specs.Tasks.{listed, slot}
use Rattle.table.specs.declared.board.Board.{Board}
use Rattle.table.specs.declared.row.Figures.{Figures}
use Rattle.table.specs.declared.row.Row.{Row}
use Rattle.table.specs.declared.task.Task.{Task}
use Rattle.table.specs.declared.tasks.Tasks.{Tasks}
use Rattle.std.proofs.Math.Nat.{min-eq_left}
use Rattle.std.proofs.Math.Path.{fun_ext}

pub answered : (rule : Rule) (board : Board) (rows : List Row) (i : ℕ) (set : Set) (own : Own) (value : ℕ → ℕ) (answer : Option ℕ) → Asks board rows i set own → ((t : ℕ) → value t ≡ rule board rows i set t) → Rising (rule board rows i set) → (Rising value → answer ≡ solution value (min own.task.figures.deadline 10000000)) → answer ≡ bound_by rule board rows i set
answered rule board rows i set own value answer asks same rising climbed =
    let is : value ≡ rule board rows i set = fun_ext same in
    let k = limited own.task.figures own.task.limits in
    let short : own.task.figures.deadline ≤ 10000000 = omega (arith, k.deadline_high, k.period_high) in
    climbed (subst Rising (sym is) rising)
    ∙ ap (λ f. solution f (min own.task.figures.deadline 10000000)) is
    ∙ ap (solution (rule board rows i set)) (min-eq_left short ∙ ap (λ (f : Figures). f.deadline) asks.figures_is)
    ∙ sym (cond-true (on_board board rows i) (solution (rule board rows i set) (deadline rows i)) None asks.found)

-- what is read at a slot is the deadline of its task
pub slot_deadline : (tasks : Tasks) (j : ℕ) → is_task (listed tasks) j ≡ true → deadline_in (slot tasks j) ≡ deadline (listed tasks) j
slot_deadline tasks j is = go (slot tasks j) refl
  where
    go : (o : Option Task) → slot tasks j ≡ o → deadline_in o ≡ deadline (listed tasks) j
    go None e = absurd (both_ways (is_task (listed tasks) j) (slot_none tasks j e) is)
    go (Some task) e = sym (ap (λ (q : Row). q.figures.deadline) (slot_row tasks j task e))

pub slot_deadline_small : (o : Option Task) → deadline_in o ≤ 10000000
slot_deadline_small None = omega arith
slot_deadline_small (Some task) = let k = limited task.figures task.limits in omega (arith, k.deadline_high, k.period_high)

-- with the deadlines as its lengths, the lesser rule's bound is the deadline test's
pub deadlines_told : (board : Board) (rows : List Row) (list : List ℕ) → Deadlines rows list → ahead_bound (length_of list) board rows ≡ deadline_bound board rows
unfolding ahead_bound deadline_bound
deadlines_told board rows list told = fun_ext (λ i. fun_ext (λ set. go i set (on_board board rows i) refl))
  where
    go : (i : ℕ) (set : Set) (on : Bool) → on_board board rows i ≡ on → bound_by (lesser_rule (length_of list)) board rows i set ≡ bound_by deadline_rule board rows i set
    go i set false off = cond-false _ _ _ off ∙ sym (cond-false _ _ _ off)
    go i set true on =
        let task = on_board_task board rows i on in
        ap (λ o. cond (on_board board rows i) o None)
        (solution_same (lesser_rule (length_of list) board rows i set) (deadline_rule board rows i set)
        (lesser_alike rows rows (core rows i) i (on_core_from rows (core rows i) i task refl) (alike_self rows (core rows i)) board set (length_of list) (deadline rows) (alike_self rows) (λ y j there. told j (on_core_task rows y j there)))
        (deadline rows i))
