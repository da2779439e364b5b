-- From a rule's laws to those of the test that solves it. A bound is a least solution, so it lies in its limits, stays
-- the same where the rule does, and by a smaller rule that rises comes no later.
use Rattle.std.specs.Prelude.{◌≡◌, ℕ, ◌≤◌, Bool, true, false, cond, ◌&&◌, List, Some, None, Option, nat_lt, refl}
use Rattle.bounds.specs.Agreeing.{above_same, core_alike, figures_alike}
use Rattle.bounds.specs.Bounds.{BoundsLeast, bound_by}
use Rattle.bounds.specs.Demand.{above, core, deadline}
use Rattle.bounds.specs.Rules.{Rule}
use Rattle.least.proofs.Smaller.{smaller_solution}
use Rattle.least.proofs.Solutions.{solution_least, solution_same}
use Rattle.least.specs.Least.{AnswersLeast, Least, Rising, Unsolved, solution}
use Rattle.std.proofs.lemmas.Option.{MatchOption-at_some, none-some, same_Some}
use Rattle.std.proofs.lemmas.Bool.{both_ways, cases_Bool, cond-false, cond-true}
use Rattle.table.proofs.Places.{off_board, on_core_from, on_core_task}
use Rattle.table.proofs.Plains.{Alike, alike_no_task, own_alike, plain_alike}
use Rattle.table.specs.Rows.{is_task, on_board, on_core, own_rows, plain}
use Rattle.table.specs.Sets.{Set, Within}
use Rattle.table.specs.Tests.{Laws, NoLater}
use Rattle.table.specs.declared.board.Board.{Board}
use Rattle.table.specs.declared.row.Figures.{Figures}
use Rattle.table.specs.declared.row.Row.{Row}
use Rattle.std.proofs.Common.{inl, inr, ◌∙◌, subst, arith}
use Rattle.std.proofs.Math.Path.{ap, sym}

-- what a rule has to keep
pub record RuleLaws (wide : Bool) (rule : Rule) : Type 0 where
  -- a task's rule rises
  pub rising : (board : Board) (rows : List Row) (i : ℕ) (set : Set) → on_board board rows i ≡ true → Rising (rule board rows i set)
  -- of the set only the members above count
  pub through_above : (board : Board) (rows : List Row) (i : ℕ) (G H : Set) → above rows i G ≡ above rows i H → (t : ℕ) → rule board rows i G t ≡ rule board rows i H t
  -- with fewer above it does not grow
  pub fewer : (board : Board) (rows : List Row) (i : ℕ) (G H : Set) → Within G H → (t : ℕ) → rule board rows i G t ≤ rule board rows i H t
  -- it reads only tasks and their figures
  pub alike : (board : Board) (rows other : List Row) (x i : ℕ) (set : Set) → on_core rows x i ≡ true → ((y : ℕ) → Alike y rows other) → (t : ℕ) → rule board rows i set t ≡ rule board other i set t
  -- and if it is not wide, only those of the own core
  pub own : wide ≡ false → (board : Board) (rows other : List Row) (x i : ℕ) (set : Set) → on_core rows x i ≡ true → Alike x rows other → (t : ℕ) → rule board rows i set t ≡ rule board other i set t

no_later : (o p : Option ℕ) → ((t : ℕ) → o ≡ Some t → (s : ℕ) × (p ≡ Some s) × (s ≤ t)) → NoLater o p
no_later None p h = tt
no_later (Some b) None h = absurd (let k = h b refl in none-some k.0 k.1)
no_later (Some b) (Some c) h = let k = h b refl in let e = same_Some c k.0 k.1 in let l = k.2 in omega arith

module _ (rule : Rule) where
  -- a bound is the least solution within the deadline
  bound_least : (board : Board) (rows : List Row) (i : ℕ) (set : Set) → BoundsLeast rule board rows i set (bound_by rule board rows i set)
  bound_least board rows i set =
      elim (cases_Bool (on_board board rows i)) [
        | inl on ↦ subst (BoundsLeast rule board rows i set) (sym (cond-true (on_board board rows i) (solution (rule board rows i set) (deadline rows i)) None on)) (told on (solution (rule board rows i set) (deadline rows i)) (solution_least (rule board rows i set) (deadline rows i)))
        | inr off ↦ subst (BoundsLeast rule board rows i set) (sym (cond-false (on_board board rows i) (solution (rule board rows i set) (deadline rows i)) None off)) (λ on. absurd (both_ways (on_board board rows i) off on))
      ]
    where
      told : on_board board rows i ≡ true → (o : Option ℕ) → AnswersLeast (rule board rows i set) (deadline rows i) o → BoundsLeast rule board rows i set o
      told on None none = λ _. none
      told on (Some t) least = (on, least)

  pub told_least : (board : Board) (rows : List Row) (i : ℕ) (set : Set) (answer : Option ℕ) → answer ≡ bound_by rule board rows i set → BoundsLeast rule board rows i set answer
  told_least board rows i set answer e = subst (BoundsLeast rule board rows i set) (sym e) (bound_least board rows i set)

  at_some : (board : Board) (rows : List Row) (i : ℕ) (set : Set) (b : ℕ) → bound_by rule board rows i set ≡ Some b → Least (rule board rows i set) (deadline rows i) b
  at_some board rows i set b e =
      (MatchOption-at_some (on_board board rows i ≡ true → Unsolved (rule board rows i set) (deadline rows i)) (λ t. (on_board board rows i ≡ true) × Least (rule board rows i set) (deadline rows i) t) b e (bound_least board rows i set)).1

  -- where the rule is the same, so is the bound
  bound_same : (board : Board) (rows other : List Row) (i : ℕ) (G H : Set) → on_board board rows i ≡ on_board board other i → deadline rows i ≡ deadline other i → ((t : ℕ) → rule board rows i G t ≡ rule board other i H t) → bound_by rule board rows i G ≡ bound_by rule board other i H
  bound_same board rows other i G H on limit same =
      ap (λ b. cond b (solution (rule board rows i G) (deadline rows i)) None) on
      ∙ ap (λ o. cond (on_board board other i) o None) (solution_same (rule board rows i G) (rule board other i H) same (deadline rows i) ∙ ap (solution (rule board other i H)) limit)

  -- for a task of core x and lists that are alike there
  bound_alike : (board : Board) (rows other : List Row) (x i : ℕ) (set : Set) → on_core rows x i ≡ true → Alike x rows other → ((t : ℕ) → rule board rows i set t ≡ rule board other i set t) → bound_by rule board rows i set ≡ bound_by rule board other i set
  unfolding on_board
  bound_alike board rows other x i set on alike same =
      let task : is_task rows i ≡ is_task other i = on_core_task rows x i on ∙ sym (on_core_task other x i (sym (alike i).0 ∙ on)) in
      bound_same board rows other i set set
      (ap (λ b. b && nat_lt (core rows i) board.cores) task ∙ ap (λ c. is_task other i && nat_lt c board.cores) (core_alike rows other x i on alike))
      (ap (λ (f : Figures). f.deadline) (figures_alike rows other x i on alike))
      same

  pub laws_from : (wide : Bool) → RuleLaws wide rule → Laws wide (bound_by rule)
  laws_from wide laws = record {
    from_one = λ board rows i set b e. (at_some board rows i set b e).low;
    by_deadline = λ board rows i set b e. (at_some board rows i set b e).high;
    only_tasks = λ board rows i set off. cond-false (on_board board rows i) (solution (rule board rows i set) (deadline rows i)) None off;
    counted = λ board rows i G H agree. bound_same board rows rows i G H refl refl (laws.through_above board rows i G H (above_same rows i G H agree));
    ranks = ranks;
    fewer = λ board rows i G H within. no_later (bound_by rule board rows i H) (bound_by rule board rows i G) (keeps board rows i G H within);
    own = λ narrow board rows x i set on. bound_alike board rows (own_rows x rows) x i set on (own_alike x rows) (laws.own narrow board rows (own_rows x rows) x i set on (own_alike x rows));
  }
    where
      ranks : (board : Board) (rows : List Row) (i : ℕ) (set : Set) → bound_by rule board rows i set ≡ bound_by rule board (plain rows) i set
      ranks board rows i set =
          elim (cases_Bool (is_task rows i)) [
            | inl task ↦
                let x = core rows i in
                let on = on_core_from rows x i task refl in
                bound_alike board rows (plain rows) x i set on (plain_alike x rows) (laws.alike board rows (plain rows) x i set on (λ y. plain_alike y rows))
            | inr none ↦
                cond-false (on_board board rows i) (solution (rule board rows i set) (deadline rows i)) None (off_board board rows i none)
                ∙ sym (cond-false (on_board board (plain rows) i) (solution (rule board (plain rows) i set) (deadline (plain rows) i)) None (off_board board (plain rows) i (alike_no_task rows (plain rows) (λ y. plain_alike y rows) i none)))
          ]

      keeps : (board : Board) (rows : List Row) (i : ℕ) (G H : Set) → Within G H → (t : ℕ) → bound_by rule board rows i H ≡ Some t → (s : ℕ) × (bound_by rule board rows i G ≡ Some s) × (s ≤ t)
      keeps board rows i G H within t e =
          elim (cases_Bool (on_board board rows i)) [
            | inl on ↦
                let k = smaller_solution (rule board rows i G) (rule board rows i H) (deadline rows i) (laws.rising board rows i G on) (laws.fewer board rows i G H within) t (sym (cond-true (on_board board rows i) (solution (rule board rows i H) (deadline rows i)) None on) ∙ e) in
                (k.0, cond-true (on_board board rows i) (solution (rule board rows i G) (deadline rows i)) None on ∙ k.1, k.2)
            | inr off ↦ absurd (none-some t (sym (cond-false (on_board board rows i) (solution (rule board rows i H) (deadline rows i)) None off) ∙ e))
          ]
