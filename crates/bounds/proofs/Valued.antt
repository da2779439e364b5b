-- The right sides that are computed from loads. Execution never falls as the window grows, and counts every load once
-- in any window, so no solution lies below it; and the deadline test's sum goes core by core.
use Rattle.std.proofs.Common.{◌≡◌, ℕ, ◌+◌, ◌<◌, ◌≤◌, min, cond, eqb, List, get_or, refl, ap, ◌∙◌, mul-le-mul_right, arith}
use Rattle.bounds.specs.Adding.{releases_rise, sum_more, sum_none, sum_same}
use Rattle.bounds.specs.Loads.{Total, cost_at, no_sums, of_core}
use Rattle.bounds.specs.Questions.{SumsOf, inflicted, lesser_side, own_cost, own_shared}
use Rattle.bounds.specs.Rules.{contention}
use Rattle.bounds.specs.Sums.{sum_to}
use Rattle.bounds.specs.declared.load.Load.{Load}
use Rattle.bounds.specs.declared.load.Sums.{Sums}
use Rattle.bounds.specs.declared.question.Own.{Own}
use Rattle.least.specs.Least.{NoSolutionBelow}
use Rattle.shortlist.specs.Items.{items}
use Rattle.std.proofs.lemmas.List.Sums.{sum_by-le-sum_by}
use Rattle.std.proofs.lemmas.Bool.{cond-false, cond-true, eq-eqb, ne_eqb}
use Rattle.table.specs.declared.board.Board.{Board}

own_cost_rises : (own : Own) (s t : ℕ) → s ≤ t → own_cost own s ≤ own_cost own t
own_cost_rises own s t l =
    omega (arith, sum_by-le-sum_by (cost_at s) (cost_at t) (items own.higher) (λ x. mul-le-mul_right x.cost (releases_rise (s + x.ahead.length) (t + x.ahead.length) x.period (omega arith))))

-- whatever is added to the execution
pub no_solution_below : (own : Own) (more : ℕ → ℕ) (r : ℕ) → r ≤ own_cost own 1 → NoSolutionBelow (λ t. own_cost own t + more t) r
no_solution_below own more r low s one e = omega (arith, own_cost_rises own 1 s one, e)

module _ (board : Board) (own : Own) (rivals : List Load) (t : ℕ) where
  -- what core y adds
  abbrev share : ℕ → ℕ
  share y = sum_to board.resources (λ r. min (inflicted rivals r y t) (own_shared own r t))

  -- the right side with the cores below n
  unfoldable pub so_far : ℕ → ℕ
  so_far n = own_cost own t + sum_to n (λ y. cond (eqb y own.task.core) 0 (share y))

  pub so_far_none : (s : Sums) → SumsOf own t s → s.cost ≡ so_far 0
  unfolding so_far
  so_far_none s h = omega (arith, h.cost, sum_none (λ y. cond (eqb y own.task.core) 0 (share y)))

  pub so_far_same : (y : ℕ) → y ≡ own.task.core → so_far (y + 1) ≡ so_far y
  unfolding so_far
  so_far_same y e =
      let core = own.task.core in
      omega (arith, sum_more y (λ y. cond (eqb y core) 0 (share y)), cond-true (eqb y core) 0 (share y) (eq-eqb y core e))

  pub so_far_more : (y : ℕ) (mine theirs : Sums) (shares : List ℕ) → (y ≡ own.task.core → ⊥) → SumsOf own t mine → Total (of_core y) t no_sums rivals theirs → ((k : ℕ) → k < 4 → get_or shares k 0 ≡ min (get_or theirs.shared k 0) (get_or mine.shared k 0)) → so_far (y + 1) ≡ so_far y + sum_to board.resources (λ k. get_or shares k 0)
  unfolding so_far
  so_far_more y mine theirs shares ne o th least =
      let core = own.task.core in
      let adds : sum_to board.resources (λ k. get_or shares k 0) ≡ share y =
      sum_same board.resources _ _ (λ k l.
      let four : k < 4 = omega (arith, board.few_resources) in
      least k four ∙ ap (λ a. min a (get_or mine.shared k 0)) (th.shared k four ∙ omega arith) ∙ ap (λ b. min (inflicted rivals k y t) b) (o.shared k four)) in
      omega (arith, adds, sum_more y (λ y. cond (eqb y core) 0 (share y)), cond-false (eqb y core) 0 (share y) (ne_eqb y core ne))

  pub so_far_all : so_far board.cores ≡ lesser_side board own rivals t
  unfolding so_far contention
  so_far_all = refl
