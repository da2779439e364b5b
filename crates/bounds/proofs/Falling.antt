-- The rounds end. What the tasks have left to their deadlines falls with every round that changes something: no task has
-- more left than before, and if all had as much left, the lists would be the same. At most 64 times 10,000,000 is left
-- at the start, so the rounds of the definition suffice.
use Rattle.std.proofs.Common.{◌≡◌, ℕ, suc, ◌+◌, ◌-◌, ◌<◌, ◌≤◌, false, cond, List, Some, Ok, Err, sym, ap, ◌∙◌, inl, inr, arith}
use Rattle.bounds.specs.Adding.{cond_le, sum_below, sum_equal}
use Rattle.bounds.proofs.Fair.{Fair, fair_next, in_limits_there, next_least, rises}
use Rattle.bounds.proofs.Listed.{same_decides}
use Rattle.bounds.specs.Demand.{deadline}
use Rattle.bounds.specs.Lengths.{length_of}
use Rattle.bounds.specs.Rounds.{ended, response, round_after, rounds, same, start}
use Rattle.bounds.specs.Sums.{sum_to}
use Rattle.std.proofs.lemmas.List.{ext_get_or}
use Rattle.std.proofs.lemmas.Bool.{both_ways, cases_Bool, cases_lt, cond-false, cond-true}
use Rattle.table.specs.Rows.{on_board}
use Rattle.table.specs.declared.board.Board.{Board}
use Rattle.table.specs.declared.row.Row.{Row}

module _ (board : Board) (rows : List Row) where
  -- what task i has left
  abbrev left_of : List ℕ → ℕ → ℕ
  left_of list i = cond (on_board board rows i) (deadline rows i - length_of list i) 0

  -- what all have left
  unfoldable pub left : List ℕ → ℕ
  left list = sum_to 64 (left_of list)

  left_small : (list : List ℕ) (i : ℕ) → left_of list i ≤ 10000000
  left_small list i =
      elim (cases_Bool (on_board board rows i)) [
        | inl on ↦ omega (arith, cond-true (on_board board rows i) (deadline rows i - length_of list i) 0 on, (in_limits_there board rows i on).deadline_high, (in_limits_there board rows i on).period_high)
        | inr off ↦ omega (arith, cond-false (on_board board rows i) (deadline rows i - length_of list i) 0 off)
      ]

  pub left_start : left (start board rows) + 1 ≤ 640000001
  unfolding left
  left_start = omega (arith, sum_below 64 10000000 (left_of (start board rows)) (λ i l. left_small (start board rows) i))

  module _ (list next : List ℕ) (is : round_after board rows list ≡ Ok next) (fair : Fair board rows list) where
    term_le : (i : ℕ) → i < 64 → left_of next i ≤ left_of list i
    term_le i l = cond_le (on_board board rows i) _ _ (λ on. omega (arith, rises board rows list next is fair i on))

    term_same : (i : ℕ) → left_of next i ≡ left_of list i → length_of next i ≡ length_of list i
    term_same i e =
        elim (cases_Bool (on_board board rows i)) [
          | inl on ↦ omega (arith, e, cond-true (on_board board rows i) (deadline rows i - length_of list i) 0 on, cond-true (on_board board rows i) (deadline rows i - length_of next i) 0 on, rises board rows list next is fair i on, (next_least board rows list next is i on).high)
          | inr off ↦ omega (arith, fair.empty i off, (fair_next board rows list next is fair).empty i off)
        ]

    pub left_falls : same next list ≡ false → left next < left list
    unfolding left
    left_falls differ =
        elim (cases_lt (left next) (left list)) [
          | inl l ↦ l
          | inr g ↦ absurd (
              let all = sum_equal 64 (left_of next) (left_of list) term_le g in
              let size = (fair_next board rows list next is fair).size in
              let eq : next ≡ list = ext_get_or 0 next list (size ∙ sym fair.size) (λ i l. term_same i (all i (omega (arith, l, size)))) in
              both_ways (same next list) differ ((same_decides next list).1 eq))
        ]

  -- one round of the definition
  pub rounds_step : (k : ℕ) (list : List ℕ) → k ≤ 640000001 → rounds board rows (640000002 - k) k list ≡ ended k list (round_after board rows list) (rounds board rows (640000002 - (k + 1)) (k + 1))
  unfolding rounds
  rounds_step k list l =
      let z : 640000002 - k ≡ suc (640000002 - (k + 1)) = omega arith in
      let y : suc k ≡ k + 1 = omega arith in
      ap (λ n. rounds board rows n k list) z ∙ ap (λ j. ended k list (round_after board rows list) (rounds board rows (640000002 - (k + 1)) j)) y

  -- the steps of the loop over rounds

  pub step_ends : (k : ℕ) (list next : List ℕ) → k ≤ 640000001 → rounds board rows (640000002 - k) k list ≡ response board rows → Ok next ≡ round_after board rows list → next ≡ list → response board rows ≡ Some (Ok (record { round = k; bounds = next }))
  step_ends k list next l e is eq =
      sym e ∙ rounds_step k list l
      ∙ ap (λ q. ended k list q (rounds board rows (640000002 - (k + 1)) (k + 1))) (sym is)
      ∙ cond-true _ _ _ ((same_decides next list).1 eq)

  pub step_refused : (k : ℕ) (list : List ℕ) (i : ℕ) → k ≤ 640000001 → rounds board rows (640000002 - k) k list ≡ response board rows → Err i ≡ round_after board rows list → response board rows ≡ Some (Err (record { task = i; round = k }))
  step_refused k list i l e is = sym e ∙ rounds_step k list l ∙ ap (λ q. ended k list q (rounds board rows (640000002 - (k + 1)) (k + 1))) (sym is)

  pub step_on : (k : ℕ) (list next : List ℕ) → k ≤ 640000001 → rounds board rows (640000002 - k) k list ≡ response board rows → Ok next ≡ round_after board rows list → same next list ≡ false → rounds board rows (640000002 - (k + 1)) (k + 1) next ≡ response board rows
  step_on k list next l e is differ =
      sym (cond-false _ _ _ differ)
      ∙ ap (λ q. ended k list q (rounds board rows (640000002 - (k + 1)) (k + 1))) is
      ∙ sym (rounds_step k list l)
      ∙ e

  pub differs : (list next : List ℕ) → (next ≡ list → ⊥) → same next list ≡ false
  differs list next ne =
      elim (cases_Bool (same next list)) [
        | inl e ↦ absurd (ne ((same_decides next list).0 e))
        | inr e ↦ e
      ]
