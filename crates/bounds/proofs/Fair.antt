-- The lists of the rounds rise, and none passes a joint solution. A list is fair when every solution of a task's
-- recurrence with it is at least the task's number, and its numbers are no larger than those of any joint solution. The
-- starting list is fair, since a recurrence is at least the execution time; and a round of a fair list is fair again,
-- since recurrences grow with the list. So a round that changes nothing is the least joint solution, and where a task has
-- no bound there is none.
use Rattle.std.proofs.Common.{◌≡◌, ℕ, ◌<◌, ◌≤◌, Bool, true, false, cond, List, length, Some, None, Ok, Err, Option, sym, refl, ◌∙◌, inl, inr, arith}
use Rattle.bounds.proofs.Growing.{NoLarger, none_unsolved, rule_cost, solved_below, some_least}
use Rattle.bounds.proofs.Listed.{EachErr, EachOk, each_at, each_err, each_ok, each_size}
use Rattle.bounds.specs.Demand.{cost, deadline}
use Rattle.bounds.specs.Lengths.{length_of}
use Rattle.bounds.specs.Rounds.{bound_after, round_after, start}
use Rattle.bounds.specs.Solutions.{JointSolution, LeastJoint, recurrence}
use Rattle.least.specs.Least.{Least}
use Rattle.std.proofs.lemmas.List.{get_or_past}
use Rattle.std.proofs.lemmas.Bool.{cases_Bool, cases_lt, cond-false, cond-true}
use Rattle.table.proofs.Limited.{Limited, limited}
use Rattle.table.proofs.Places.{on_board_task, task_below, task_limits}
use Rattle.table.specs.Ranks.{higher_ranked}
use Rattle.table.specs.Rows.{on_board, row_at}
use Rattle.table.specs.declared.board.Board.{Board}
use Rattle.table.specs.declared.row.Row.{Row}

module _ (board : Board) (rows : List Row) where
  -- what the list before a round keeps
  pub record Fair (list : List ℕ) : Type 0 where
    pub size : length list ≡ 64
    pub empty : (i : ℕ) → on_board board rows i ≡ false → length_of list i ≡ 0
    pub small : (i : ℕ) → length_of list i ≤ 10000000
    pub under : (i : ℕ) → on_board board rows i ≡ true → (t : ℕ) → 1 ≤ t → recurrence board rows list i t ≡ t → length_of list i ≤ t
    pub low : (other : List ℕ) → JointSolution board rows other → NoLarger board rows (length_of list) (length_of other)

  pub below_64 : (i : ℕ) → on_board board rows i ≡ true → i < 64
  below_64 i on = task_below rows i (on_board_task board rows i on)

  pub in_limits_there : (i : ℕ) → on_board board rows i ≡ true → Limited (row_at rows i).figures
  in_limits_there i on = limited (row_at rows i).figures (task_limits rows i (on_board_task board rows i on))

  -- 0 for what is no task, also past the end
  empty_all : (list : List ℕ) → length list ≡ 64 → ((i : ℕ) → i < 64 → on_board board rows i ≡ false → length_of list i ≡ 0) → (i : ℕ) → on_board board rows i ≡ false → length_of list i ≡ 0
  empty_all list size h i off = elim (cases_lt i 64) [ inl l ↦ h i l off | inr g ↦ get_or_past list i 0 (omega (arith, size)) ]

  small_all : (list : List ℕ) → ((i : ℕ) → on_board board rows i ≡ true → length_of list i ≤ 10000000) → ((i : ℕ) → on_board board rows i ≡ false → length_of list i ≡ 0) → (i : ℕ) → length_of list i ≤ 10000000
  small_all list h empty i = elim (cases_Bool (on_board board rows i)) [ inl on ↦ h i on | inr off ↦ omega (arith, empty i off) ]

  -- the starting list

  start_task : (i : ℕ) → on_board board rows i ≡ true → length_of (start board rows) i ≡ cost rows i
  unfolding start
  start_task i on = each_at (λ j. cond (on_board board rows j) (cost rows j) 0) i (below_64 i on) ∙ cond-true (on_board board rows i) (cost rows i) 0 on

  start_size : length (start board rows) ≡ 64
  unfolding start
  start_size = each_size (λ j. cond (on_board board rows j) (cost rows j) 0)

  start_none : (i : ℕ) → on_board board rows i ≡ false → length_of (start board rows) i ≡ 0
  unfolding start
  start_none = empty_all (start board rows) start_size (λ i l off. each_at (λ j. cond (on_board board rows j) (cost rows j) 0) i l ∙ cond-false (on_board board rows i) (cost rows i) 0 off)

  pub fair_start : Fair (start board rows)
  fair_start = record {
    size = start_size;
    empty = start_none;
    small = small_all (start board rows) (λ i on. omega (arith, start_task i on, (in_limits_there i on).cost_high)) start_none;
    under = λ i on t one solves. omega (arith, start_task i on, rule_cost board rows (length_of (start board rows)) i (higher_ranked rows i) t, solves);
    low = λ other sol i on. omega (arith, start_task i on, rule_cost board rows (length_of other) i (higher_ranked rows i) (length_of other i), (sol i on).solves);
  }

  -- a round that is not refused
  module _ (list next : List ℕ) (is : round_after board rows list ≡ Ok next) where
    parts : EachOk (bound_after board rows list) next
    unfolding round_after
    parts = each_ok (bound_after board rows list) next is

    next_none : (i : ℕ) → on_board board rows i ≡ false → length_of next i ≡ 0
    unfolding bound_after
    next_none = empty_all next parts.0 (λ i l off.
        let s : ◌≡◌ {A = Option ℕ} (Some 0) (Some (length_of next i)) = sym (cond-false _ _ _ off) ∙ parts.1 i l in
        cc)

    pub next_least : (i : ℕ) → on_board board rows i ≡ true → Least (recurrence board rows list i) (deadline rows i) (length_of next i)
    unfolding bound_after
    next_least i on = some_least board rows (length_of list) i (higher_ranked rows i) on (length_of next i) (sym (cond-true _ _ _ on) ∙ parts.1 i (below_64 i on))

    module _ (fair : Fair list) where
      pub rises : NoLarger board rows (length_of list) (length_of next)
      rises i on = fair.under i on (length_of next i) (next_least i on).low (next_least i on).solves

      pub fair_next : Fair next
      fair_next = record {
        size = parts.0;
        empty = next_none;
        small = small_all next (λ i on. omega (arith, (next_least i on).high, (in_limits_there i on).deadline_high, (in_limits_there i on).period_high)) next_none;
        under = λ i on t one solves.
            let p = solved_below board rows (length_of list) i (higher_ranked rows i) on (length_of next) rises t one solves in
            omega (arith, (next_least i on).first p.0 p.1 p.3, p.2);
        low = λ other sol i on.
            let p = solved_below board rows (length_of list) i (higher_ranked rows i) on (length_of other) (fair.low other sol) (length_of other i) (sol i on).low (sol i on).solves in
            omega (arith, (next_least i on).first p.0 p.1 p.3, p.2);
      }

  -- a refused round
  module _ (list : List ℕ) (i : ℕ) (is : round_after board rows list ≡ Err i) where
    pub refused_parts : EachErr (bound_after board rows list) i
    unfolding round_after
    refused_parts = each_err (bound_after board rows list) i is

    refused_on : (b : Bool) → on_board board rows i ≡ b → on_board board rows i ≡ true
    unfolding bound_after
    refused_on true e = e
    refused_on false e = absurd (
        let s : ◌≡◌ {A = Option ℕ} (Some 0) None = sym (cond-false _ _ _ e) ∙ refused_parts.1 in
        let z : ◌≡◌ {A = ℕ} 0 1 = cc in omega arith)

    pub no_joint : Fair list → (other : List ℕ) → JointSolution board rows other → ⊥
    unfolding bound_after
    no_joint fair other sol =
        let on = refused_on (on_board board rows i) refl in
        let p = solved_below board rows (length_of list) i (higher_ranked rows i) on (length_of other) (fair.low other sol) (length_of other i) (sol i on).low (sol i on).solves in
        none_unsolved board rows (length_of list) i (higher_ranked rows i) on (sym (cond-true _ _ _ on) ∙ refused_parts.1) p.0 p.1 (omega (arith, p.2, (sol i on).high)) p.3

  -- a round that gives the list itself
  pub least_joint : (list : List ℕ) → Fair list → round_after board rows list ≡ Ok list → LeastJoint board rows list
  least_joint list fair is = record {
    size = fair.size;
    solution = λ i on. let k = next_least list list is i on in record { low = k.low; high = k.high; solves = k.solves };
    least = fair.low;
    empty = fair.empty;
  }
