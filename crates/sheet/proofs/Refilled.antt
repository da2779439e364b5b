-- The tasks of well-formed rows, entered one after the other by rising number on a fresh sheet with no smaller capacity:
-- none is refused. Before number n the sheet has the rows of the tasks below n, and else empty rows. So the number is
-- free; core and figures are lawful; and a task that has the rank on that core is one of the rows, with a smaller number,
-- against the rule that no two share a rank.
use Rattle.std.proofs.Common.{◌≡◌, ℕ, zero, suc, ◌<◌, ◌≤◌, Bool, true, false, cond, not, ◌&&◌, eqb, ltb, List, [], ◌∷◌, ◌++◌, length, set, is_some, Some, None, Option, sym, refl, ap, ◌∙◌, subst, ⊎_elim, arith}
use Rattle.sheet.proofs.Opened.{fresh_empty, fresh_long}
use Rattle.sheet.proofs.Tasked.{task_used, used_task}
use Rattle.sheet.specs.Editing.{entered, entry_of, has_rank, rank_free, rank_holder, row_of}
use Rattle.sheet.specs.Formed.{LawfulRow, WellFormed}
use Rattle.sheet.specs.Loading.{Enters, record_refusal}
use Rattle.sheet.specs.State.{State, fresh}
use Rattle.std.proofs.lemmas.List.{append-nil, get_or-set_other, get_or-set_same, length-set, map-append}
use Rattle.std.proofs.lemmas.Bool.{and_from, and_left, and_parts, and_right, both_ways, cases_Bool, cases_eq, cases_lt, cond-false, cond-true, eqb-true, le-leb, le-ltb, lt-ltb, ltb-true}
use Rattle.table.proofs.Firsts.{FirstBelow, first_is}
use Rattle.table.proofs.Places.{no_task_from, no_task_outside, on_core_is, on_core_task, task_below}
use Rattle.table.specs.Limits.{suits}
use Rattle.table.specs.Rows.{capacity, empty_row, holds_task, is_task, on_core, past, row_at}
use Rattle.table.specs.declared.board.Board.{Board}
use Rattle.table.specs.declared.row.Row.{Row}
use Rattle.tablefile.specs.Numbers.{entry, numbers, records_for, tasks_below}
use Rattle.tablefile.specs.declared.records.Record.{Record}

enters_both : (xs ys : List Record) (s u t : State) → Enters s xs u → Enters u ys t → Enters s (xs ++ ys) t
enters_both [] ys s u t e f = subst (λ (z : State). Enters z ys t) e f
enters_both (x ∷ xs) ys s u t e f = (e.0, enters_both xs ys (entered s (entry_of x)) u t e.1 f)

no_holder : (test : ℕ → Bool) (o : Option ℕ) → FirstBelow test 64 o → ((j : ℕ) → test j ≡ true → ⊥) → not (is_some o) ≡ true
no_holder test None h none = refl
no_holder test (Some i) h none = absurd (none i h.1)

-- one number more
ltb_more : (i n : ℕ) → (i ≡ n → ⊥) → ltb i (suc n) ≡ ltb i n
ltb_more i n ne =
    ⊎_elim
    (λ less. lt-ltb i (suc n) (omega arith) ∙ sym (lt-ltb i n less))
    (λ more. le-ltb i (suc n) (omega arith) ∙ sym (le-ltb i n more))
    (cases_lt i n)

module _ (board : Board) (rows lent : List Row) (h : WellFormed board rows) (room : capacity rows ≤ capacity lent) where
  task_inside : (i : ℕ) → is_task rows i ≡ true → i < capacity rows
  task_inside i task =
      let inside : i < length rows = ⊎_elim (λ l. l) (λ over. absurd (both_ways (is_task rows i) (no_task_outside rows i over) task)) (cases_lt i (length rows)) in
      omega (arith, task_below rows i task)

  -- what a sheet has before number n
  abbrev filled : ℕ → ℕ → Row
  filled n i = cond (ltb i n && is_task rows i) (row_at rows i) empty_row

  record Before (n : ℕ) (t : State) : Type 0 where
    pub same_board : t.board ≡ board
    pub long : length t.rows ≡ length lent
    pub row_is : (i : ℕ) → i < capacity lent → row_at t.rows i ≡ filled n i

  before_first : Before 0 (fresh board lent)
  before_first = record {
    same_board = refl;
    long = fresh_long board lent;
    row_is = λ i l. fresh_empty board lent i l ∙ sym (cond-false (ltb i 0 && is_task rows i) (row_at rows i) empty_row (and_left (ltb i 0) (is_task rows i) (le-ltb i 0 (omega arith))));
  }

  -- a number without a task changes nothing
  skipped : (n : ℕ) (t : State) → is_task rows n ≡ false → Before n t → Before (suc n) t
  skipped n t none b = record {
    same_board = b.same_board;
    long = b.long;
    row_is = λ i l.
        b.row_is i l
        ∙ ⊎_elim
        (λ e.
        let off : is_task rows i ≡ false = ap (is_task rows) e ∙ none in
        cond-false (ltb i n && is_task rows i) (row_at rows i) empty_row (and_right (ltb i n) (is_task rows i) off)
        ∙ sym (cond-false (ltb i (suc n) && is_task rows i) (row_at rows i) empty_row (and_right (ltb i (suc n)) (is_task rows i) off)))
        (λ ne. ap (λ z. cond (z && is_task rows i) (row_at rows i) empty_row) (sym (ltb_more i n ne)))
        (cases_eq i n);
  }

  module _ (n : ℕ) (t : State) (task : is_task rows n ≡ true) (b : Before n t) where
    lawful : LawfulRow board (row_at rows n)
    lawful = h.lawful n (task_below rows n task) (task_used rows n task)

    vacant : is_task t.rows n ≡ false
    vacant =
        no_task_from t.rows n
        (ap holds_task (b.row_is n (omega (arith, task_inside n task, room)) ∙ cond-false (ltb n n && is_task rows n) (row_at rows n) empty_row (and_left (ltb n n) (is_task rows n) (le-ltb n n (omega arith)))))

    -- a task of the sheet is one of the rows, with a smaller number
    known : (j : ℕ) → is_task t.rows j ≡ true → (j < n) × (is_task rows j ≡ true) × (row_at t.rows j ≡ row_at rows j)
    known j on =
        let inside : j < length t.rows = ⊎_elim (λ l. l) (λ over. absurd (both_ways (is_task t.rows j) (no_task_outside t.rows j over) on)) (cases_lt j (length t.rows)) in
        let is = b.row_is j (omega (arith, task_below t.rows j on, b.long)) in
        ⊎_elim
        (λ yes.
        let parts = and_parts (ltb j n) (is_task rows j) yes in
        (ltb-true j n parts.0, parts.1, is ∙ cond-true (ltb j n && is_task rows j) (row_at rows j) empty_row yes))
        (λ no. absurd (both_ways (is_task t.rows j) (no_task_from t.rows j (ap holds_task (is ∙ cond-false (ltb j n && is_task rows j) (row_at rows j) empty_row no))) on))
        (cases_Bool (ltb j n && is_task rows j))

    rank_unused : (j : ℕ) → has_rank t.rows (on_core t.rows (row_at rows n).core) (row_at rows n).rank j ≡ true → ⊥
    rank_unused j has =
        let parts = and_parts (on_core t.rows (row_at rows n).core j) (eqb (row_at t.rows j).rank (row_at rows n).rank) has in
        let k = known j (on_core_task t.rows (row_at rows n).core j parts.0) in
        let same : j ≡ n =
        h.apart j n (omega (arith, k.0, task_below rows n task)) (task_below rows n task) (task_used rows j k.1) (task_used rows n task)
        (ap (λ (z : Row). z.core) (sym k.2) ∙ on_core_is t.rows (row_at rows n).core j parts.0)
        (ap (λ (z : Row). z.rank) (sym k.2) ∙ eqb-true _ _ parts.1) in
        omega (arith, k.0, same)

    free : rank_free t.rows (row_at rows n).core (row_at rows n).rank ≡ true
    free =
        let test = has_rank t.rows (on_core t.rows (row_at rows n).core) (row_at rows n).rank in
        and_from _ _ (and_from _ _ (le-leb _ _ lawful.rank_from) (le-leb _ _ lawful.rank_to)) (no_holder test (rank_holder t.rows (on_core t.rows (row_at rows n).core) (row_at rows n).rank) (first_is test 64) rank_unused)

    accepted : record_refusal t (entry rows n) ≡ None
    accepted =
        let place : ltb n (capacity t.rows) ≡ true = lt-ltb n (capacity t.rows) (omega (arith, task_inside n task, room, b.long)) in
        let core : ltb (row_at rows n).core t.board.cores ≡ true = ap (λ (z : Board). ltb (row_at rows n).core z.cores) b.same_board ∙ lt-ltb _ _ lawful.core_below in
        let fits : suits t.board (row_at rows n).figures ≡ true = ap (λ (z : Board). suits z (row_at rows n).figures) b.same_board ∙ lawful.limits in
        rw (place, vacant, core, free, fits)

    row_same : row_of (entry_of (entry rows n)) ≡ row_at rows n
    row_same = ap (λ u. record { used = u; core = (row_at rows n).core; rank = (row_at rows n).rank; figures = (row_at rows n).figures }) (sym (task_used rows n task))

    written : Before (suc n) (entered t (entry_of (entry rows n)))
    written = record {
      same_board = b.same_board;
      long = length-set t.rows n (row_of (entry_of (entry rows n))) ∙ b.long;
      row_is = λ i l.
          ⊎_elim
          (λ e.
          ap (row_at (set t.rows n (row_of (entry_of (entry rows n))))) e
          ∙ get_or-set_same t.rows n (row_of (entry_of (entry rows n))) past (omega (arith, task_inside n task, room, b.long))
          ∙ row_same
          ∙ sym (ap (filled (suc n)) e ∙ cond-true (ltb n (suc n) && is_task rows n) (row_at rows n) empty_row (and_from _ _ (lt-ltb n (suc n) (omega arith)) task)))
          (λ ne. get_or-set_other t.rows n i (row_of (entry_of (entry rows n))) past ne ∙ b.row_is i l ∙ ap (λ z. cond (z && is_task rows i) (row_at rows i) empty_row) (sym (ltb_more i n ne)))
          (cases_eq i n);
    }

  record Refill (n : ℕ) : Type 0 where
    pub sheet : State
    pub enters : Enters (fresh board lent) (records_for rows (tasks_below rows n)) sheet
    pub before : Before n sheet

  refill_step : (n : ℕ) (found : Bool) → is_task rows n ≡ found → Refill n → (ns : List ℕ) → ns ≡ tasks_below rows n ++ cond found (n ∷ []) [] → (t : State) × Enters (fresh board lent) (records_for rows ns) t × Before (suc n) t
  refill_step n true task r ns e = (
    entered r.sheet (entry_of (entry rows n)),
    subst (λ zs. Enters (fresh board lent) zs (entered r.sheet (entry_of (entry rows n)))) (sym (ap (records_for rows) e ∙ map-append (entry rows) (tasks_below rows n) (n ∷ [])))
        (enters_both (records_for rows (tasks_below rows n)) (entry rows n ∷ []) (fresh board lent) r.sheet (entered r.sheet (entry_of (entry rows n))) r.enters (accepted n r.sheet task r.before, refl)),
    written n r.sheet task r.before,
  )
  refill_step n false none r ns e = (
    r.sheet,
    subst (λ zs. Enters (fresh board lent) zs r.sheet) (sym (ap (records_for rows) (e ∙ append-nil (tasks_below rows n)))) r.enters,
    skipped n r.sheet none r.before,
  )

  refill : (n : ℕ) → Refill n
  unfolding tasks_below
  refill zero = record { sheet = fresh board lent; enters = refl; before = before_first }
  refill (suc n) = let r = refill_step n (is_task rows n) refl (refill n) (tasks_below rows (suc n)) refl in record { sheet = r.0; enters = r.1; before = r.2 }

  -- rows that are no task's are empty
  no_task_empty : (i : ℕ) → i < capacity rows → is_task rows i ≡ false → row_at rows i ≡ empty_row
  no_task_empty i l none =
      h.empty i l (⊎_elim (λ u. absurd (both_ways (is_task rows i) none (used_task board rows i h (omega arith) u))) (λ u. u) (cases_Bool (row_at rows i).used))

  pub record Refilled (t : State) : Type 0 where
    pub enters : Enters (fresh board lent) (records_for rows (numbers rows)) t
    pub same_rows : (i : ℕ) → i < capacity rows → row_at t.rows i ≡ row_at rows i
    pub rest_empty : (i : ℕ) → capacity rows ≤ i → i < capacity lent → row_at t.rows i ≡ empty_row

  pub refilled : (t : State) × Refilled t
  unfolding numbers
  refilled =
      let r = refill 64 in (
        r.sheet,
        record {
          enters = r.enters;
          same_rows = λ i l.
              r.before.row_is i (omega (arith, l, room))
              ∙ ⊎_elim
              (λ yes. cond-true (ltb i 64 && is_task rows i) (row_at rows i) empty_row (and_from _ _ (lt-ltb i 64 (omega (arith, l))) yes))
              (λ no. cond-false (ltb i 64 && is_task rows i) (row_at rows i) empty_row (and_right (ltb i 64) (is_task rows i) no) ∙ sym (no_task_empty i l no))
              (cases_Bool (is_task rows i));
          rest_empty = λ i past l.
              r.before.row_is i l
              ∙ cond-false (ltb i 64 && is_task rows i) (row_at rows i) empty_row (and_right (ltb i 64) (is_task rows i) (no_task_outside rows i (omega (arith, past, l))));
        },
      )
