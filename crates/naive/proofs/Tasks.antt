-- The task that a row list has in a place: read through the one test of the limits.
use Rattle.std.proofs.Common.{◌≡◌, ℕ, ◌<◌, ◌≤◌, ◌&&◌, Bool, true, false, List, length, get_or, nat_eq, nat_lt, Some, None, Option, sym, refl, ap, ◌∙◌, subst, inl, inr, ⊎_elim, arith}
use Rattle.std.proofs.lemmas.Bool.{and_left, and_right, cases_Bool, cases_lt, cond-false, cond-true}
use Rattle.std.proofs.lemmas.List.{get_or_past}
use Rattle.std.specs.Option.{IfSome, unwrap_or}
use Rattle.naive.specs.Answers.{CanBeBound, is_above, ranked_above, task_at}
use Rattle.table.proofs.Places.{no_task_from, no_task_outside, no_task_past, not_higher, off_board, off_core, off_cores, on_board_from, task_from}
use Rattle.table.specs.Ranks.{higher_ranked}
use Rattle.table.specs.Rows.{holds_task, is_task, on_board, on_core, row_at}
use Rattle.table.specs.declared.board.Board.{Board}
use Rattle.table.specs.declared.row.Row.{Row}
use lib.ListN.{get_or-replicate, length-replicate, replicate}

none_of : (rows : List Row) (k : ℕ) → is_task rows k ≡ false → task_at rows k ≡ None
none_of rows k h = cond-false (is_task rows k) (Some (row_at rows k)) None h

pub none_outside : (rows : List Row) (k : ℕ) → length rows ≤ k → task_at rows k ≡ None
none_outside rows k h = none_of rows k (no_task_outside rows k h)

pub none_past : (rows : List Row) (k : ℕ) → 64 ≤ k → task_at rows k ≡ None
none_past rows k h = none_of rows k (no_task_past rows k h)

pub none_free : (rows : List Row) (k : ℕ) → holds_task (row_at rows k) ≡ false → task_at rows k ≡ None
none_free rows k h = none_of rows k (no_task_from rows k h)

pub some_held : (rows : List Row) (k : ℕ) → k < 64 → holds_task (row_at rows k) ≡ true → task_at rows k ≡ Some (row_at rows k)
some_held rows k l h = cond-true (is_task rows k) (Some (row_at rows k)) None (task_from rows k l h)

-- what an answer says of the row list

none_some : {X : Type 0} (x : X) → ◌≡◌ {A = Option X} None (Some x) → ⊥
none_some x e = let z : ◌≡◌ {A = ℕ} 0 1 = cc in omega arith

some_inside : {X : Type 0} {x y : X} → ◌≡◌ {A = Option X} (Some x) (Some y) → x ≡ y
some_inside {X} {x} e = ap (λ o. unwrap_or o x) e

pub task_is : (rows : List Row) (k : ℕ) (row : Row) → task_at rows k ≡ Some row → (is_task rows k ≡ true) × (row_at rows k ≡ row)
task_is rows k row e =
    elim (cases_Bool (is_task rows k)) [
      | inl is ↦ (is, some_inside (sym (cond-true (is_task rows k) (Some (row_at rows k)) None is) ∙ e))
      | inr no' ↦ absurd (none_some row (sym (none_of rows k no') ∙ e))
    ]

pub no_task_is : (rows : List Row) (k : ℕ) → task_at rows k ≡ None → is_task rows k ≡ false
no_task_is rows k e =
    elim (cases_Bool (is_task rows k)) [
      | inl is ↦ absurd (none_some (row_at rows k) (sym e ∙ cond-true (is_task rows k) (Some (row_at rows k)) None is))
      | inr no' ↦ no'
    ]

-- above a row, and above a number

pub above_some : (rows : List Row) (me : Row) (k : ℕ) (row : Row) → task_at rows k ≡ Some row → (nat_eq row.core me.core && nat_lt row.rank me.rank) ≡ is_above rows me k
unfolding on_core
above_some rows me k row e =
    let is = task_is rows k row e in
    sym (subst (λ b. ((b && nat_eq (row_at rows k).core me.core) && nat_lt (row_at rows k).rank me.rank) ≡ (nat_eq row.core me.core && nat_lt row.rank me.rank)) (sym is.0)
    (subst (λ (x : Row). (nat_eq x.core me.core && nat_lt x.rank me.rank) ≡ (nat_eq row.core me.core && nat_lt row.rank me.rank)) (sym is.1) refl))

pub above_none : (rows : List Row) (me : Row) (k : ℕ) → task_at rows k ≡ None → false ≡ is_above rows me k
unfolding on_core
above_none rows me k e =
    sym (subst (λ b. ((b && nat_eq (row_at rows k).core me.core) && nat_lt (row_at rows k).rank me.rank) ≡ false) (sym (no_task_is rows k e)) refl)

pub above_task : (rows : List Row) (i : ℕ) (me : Row) → task_at rows i ≡ Some me → (k : ℕ) → is_above rows me k ≡ ranked_above rows i k
unfolding higher_ranked
above_task rows i me e k =
    let is = task_is rows i me e in
    subst (λ (x : Row). is_above rows x k ≡ ranked_above rows i k) is.1 (subst (λ b. is_above rows (row_at rows i) k ≡ (b && is_above rows (row_at rows i) k)) (sym is.0) refl)

pub past_ranked : (rows : List Row) (i k : ℕ) → 64 ≤ k → ranked_above rows i k ≡ false
past_ranked rows i k l = and_right (is_task rows i) (higher_ranked rows i k) (not_higher rows i k (no_task_past rows k l))

pub none_ranked : (rows : List Row) (i k : ℕ) → task_at rows i ≡ None → ranked_above rows i k ≡ false
none_ranked rows i k e = and_left (is_task rows i) (higher_ranked rows i k) (no_task_is rows i e)

-- no flags
pub none_flagged : (k : ℕ) → get_or (replicate 64 false) k false ≡ false
none_flagged k = ⊎_elim
    (λ below. get_or-replicate 64 k false false below)
    (λ out. get_or_past (replicate 64 false) k false (omega (arith, length-replicate {A = Bool})))
    (cases_lt k 64)

-- a window of a task of the board can be its bound
pub can_be : (board : Board) (rows : List Row) (i : ℕ) (me : Row) (o : Option ℕ) → task_at rows i ≡ Some me → me.core < board.cores → IfSome o (λ t. (1 ≤ t) × (t ≤ me.figures.deadline)) → CanBeBound board rows i o
can_be board rows i me None e l h = tt
can_be board rows i me (Some t) e l h =
    let is = task_is rows i me e in (
      on_board_from board rows i is.0 (subst (λ (x : Row). x.core < board.cores) (sym is.1) l),
      h.0,
      subst (λ (x : Row). t ≤ x.figures.deadline) (sym is.1) h.1,
    )

-- on the board, or not

pub on_some : (board : Board) (rows : List Row) (k : ℕ) (row : Row) → task_at rows k ≡ Some row → row.core < board.cores → true ≡ on_board board rows k
on_some board rows k row e l =
    let is = task_is rows k row e in
    sym (on_board_from board rows k is.0 (subst (λ (x : Row). x.core < board.cores) (sym is.1) l))

pub off_some : (board : Board) (rows : List Row) (k : ℕ) (row : Row) → task_at rows k ≡ Some row → board.cores ≤ row.core → false ≡ on_board board rows k
off_some board rows k row e l = sym (off_cores board rows k (subst (λ (x : Row). board.cores ≤ x.core) (sym (task_is rows k row e).1) l))

pub off_none : (board : Board) (rows : List Row) (k : ℕ) → task_at rows k ≡ None → false ≡ on_board board rows k
off_none board rows k e = sym (off_board board rows k (no_task_is rows k e))

-- on a core, or not

pub core_some : (rows : List Row) (core k : ℕ) (row : Row) → task_at rows k ≡ Some row → nat_eq row.core core ≡ on_core rows core k
unfolding on_core
core_some rows core k row e =
    let is = task_is rows k row e in
    subst (λ b. nat_eq row.core core ≡ (b && nat_eq (row_at rows k).core core)) (sym is.0) (subst (λ (x : Row). nat_eq row.core core ≡ nat_eq x.core core) (sym is.1) refl)

pub core_none : (rows : List Row) (core k : ℕ) → task_at rows k ≡ None → false ≡ on_core rows core k
core_none rows core k e = sym (off_core rows core k (no_task_is rows k e))
