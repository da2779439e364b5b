-- What is known of a number that has a task, and of one that has none. Everything follows from the two tests by which
-- `is_task` is defined: the number is below 64, and its row is used and in limits; a row past the end is not used.
use Rattle.std.proofs.Common.{◌≡◌, ℕ, ◌<◌, ◌≤◌, true, false, eqb, ltb, List, length, ap, ◌∙◌, arith}
use Rattle.std.proofs.lemmas.List.{get_or_past}
use Rattle.std.proofs.lemmas.Bool.{and_from, and_left, and_parts, and_right, eq-eqb, eqb-true, le-ltb, lt-ltb, ltb-true, ne_eqb}
use Rattle.table.specs.Limits.{in_limits}
use Rattle.table.specs.Ranks.{higher_ranked}
use Rattle.table.specs.Rows.{holds_task, is_task, on_board, on_core, past, row_at}
use Rattle.table.specs.declared.board.Board.{Board}
use Rattle.table.specs.declared.row.Row.{Row}

pub row_past : (rows : List Row) (k : ℕ) → length rows ≤ k → row_at rows k ≡ past
row_past rows k h = get_or_past rows k past h

pub task_below : (rows : List Row) (k : ℕ) → is_task rows k ≡ true → k < 64
unfolding is_task
task_below rows k h = ltb-true k 64 (and_parts (ltb k 64) (holds_task (row_at rows k)) h).0

pub task_holds : (rows : List Row) (k : ℕ) → is_task rows k ≡ true → holds_task (row_at rows k) ≡ true
unfolding is_task
task_holds rows k h = (and_parts (ltb k 64) (holds_task (row_at rows k)) h).1

pub task_from : (rows : List Row) (k : ℕ) → k < 64 → holds_task (row_at rows k) ≡ true → is_task rows k ≡ true
unfolding is_task
task_from rows k l h = and_from _ _ (lt-ltb k 64 l) h

pub no_task_from : (rows : List Row) (k : ℕ) → holds_task (row_at rows k) ≡ false → is_task rows k ≡ false
unfolding is_task
no_task_from rows k h = and_right (ltb k 64) (holds_task (row_at rows k)) h

pub task_limits : (rows : List Row) (k : ℕ) → is_task rows k ≡ true → in_limits (row_at rows k).figures ≡ true
task_limits rows k h = (and_parts (row_at rows k).used (in_limits (row_at rows k).figures) (task_holds rows k h)).1

pub no_task_past : (rows : List Row) (k : ℕ) → 64 ≤ k → is_task rows k ≡ false
unfolding is_task
no_task_past rows k h = and_left (ltb k 64) (holds_task (row_at rows k)) (le-ltb k 64 h)

pub no_task_outside : (rows : List Row) (k : ℕ) → length rows ≤ k → is_task rows k ≡ false
no_task_outside rows k h = no_task_from rows k (ap holds_task (row_past rows k h))

-- on a core

pub on_core_task : (rows : List Row) (core k : ℕ) → on_core rows core k ≡ true → is_task rows k ≡ true
unfolding on_core
on_core_task rows core k h = (and_parts (is_task rows k) (eqb (row_at rows k).core core) h).0

pub on_core_is : (rows : List Row) (core k : ℕ) → on_core rows core k ≡ true → (row_at rows k).core ≡ core
unfolding on_core
on_core_is rows core k h = eqb-true _ core (and_parts (is_task rows k) (eqb (row_at rows k).core core) h).1

pub on_core_from : (rows : List Row) (core k : ℕ) → is_task rows k ≡ true → (row_at rows k).core ≡ core → on_core rows core k ≡ true
unfolding on_core
on_core_from rows core k h e = and_from _ _ h (eq-eqb _ core e)

pub off_core : (rows : List Row) (core k : ℕ) → is_task rows k ≡ false → on_core rows core k ≡ false
unfolding on_core
off_core rows core k h = and_left (is_task rows k) (eqb (row_at rows k).core core) h

pub other_core : (rows : List Row) (core k : ℕ) → ((row_at rows k).core ≡ core → ⊥) → on_core rows core k ≡ false
unfolding on_core
other_core rows core k h = and_right (is_task rows k) (eqb (row_at rows k).core core) (ne_eqb _ core h)

-- on the board

pub on_board_task : (board : Board) (rows : List Row) (k : ℕ) → on_board board rows k ≡ true → is_task rows k ≡ true
unfolding on_board
on_board_task board rows k h = (and_parts (is_task rows k) (ltb (row_at rows k).core board.cores) h).0

pub on_board_core : (board : Board) (rows : List Row) (k : ℕ) → on_board board rows k ≡ true → (row_at rows k).core < board.cores
unfolding on_board
on_board_core board rows k h = ltb-true _ _ (and_parts (is_task rows k) (ltb (row_at rows k).core board.cores) h).1

pub on_board_from : (board : Board) (rows : List Row) (k : ℕ) → is_task rows k ≡ true → (row_at rows k).core < board.cores → on_board board rows k ≡ true
unfolding on_board
on_board_from board rows k h l = and_from _ _ h (lt-ltb _ _ l)

pub off_board : (board : Board) (rows : List Row) (k : ℕ) → is_task rows k ≡ false → on_board board rows k ≡ false
unfolding on_board
off_board board rows k h = and_left (is_task rows k) (ltb (row_at rows k).core board.cores) h

pub off_cores : (board : Board) (rows : List Row) (k : ℕ) → board.cores ≤ (row_at rows k).core → on_board board rows k ≡ false
unfolding on_board
off_cores board rows k l = and_right (is_task rows k) (ltb (row_at rows k).core board.cores) (le-ltb _ _ l)

-- above

pub not_higher : (rows : List Row) (i j : ℕ) → is_task rows j ≡ false → higher_ranked rows i j ≡ false
unfolding higher_ranked
not_higher rows i j h = and_left (on_core rows (row_at rows i).core j) (ltb (row_at rows j).rank (row_at rows i).rank) (off_core rows (row_at rows i).core j h)

-- rank 0, which is read past the end, is below no rank
pub none_above_past : (rows : List Row) (i j : ℕ) → row_at rows i ≡ past → higher_ranked rows i j ≡ false
unfolding higher_ranked
none_above_past rows i j h =
    and_right (on_core rows (row_at rows i).core j) (ltb (row_at rows j).rank (row_at rows i).rank)
    (ap (λ (row : Row). ltb (row_at rows j).rank row.rank) h ∙ le-ltb (row_at rows j).rank 0 (omega arith))
