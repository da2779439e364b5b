-- Rows stay well-formed under the two kinds of writing. A row that is written keeps every limit and has a rank that no
-- other task of its core has, or is the empty row. Ranks that are written on a core are from 1 to n, each once, and
-- nothing else changes.
use Rattle.std.proofs.Common.{◌≡◌, ℕ, ◌<◌, ◌≤◌, Bool, true, false, not, ◌&&◌, eqb, leb, List, [], ◌∷◌, length, set, is_some, Some, None, Option, sym, refl, ap, ◌∙◌, subst, ⊎_elim, arith}
use Rattle.ordering.proofs.Listing.{named_either}
use Rattle.ordering.proofs.Sizes.{order_short}
use Rattle.ordering.specs.Orders.{OrderOf, named}
use Rattle.ordering.specs.Present.{Falls}
use Rattle.ordering.specs.Writing.{Writes}
use Rattle.sheet.proofs.Tasked.{task_used, used_on}
use Rattle.sheet.specs.Editing.{has_rank, rank_free, rank_holder}
use Rattle.sheet.specs.Formed.{LawfulRow, WellFormed}
use Rattle.std.proofs.lemmas.List.{get_or-set_other, get_or-set_same, length-set}
use Rattle.std.proofs.lemmas.Bool.{and_from, and_parts, both_ways, cases_Bool, cases_eq, eq-eqb, leb-true}
use Rattle.table.proofs.Firsts.{FirstBelow, first_is}
use Rattle.table.proofs.Places.{on_core_is, on_core_task, task_below}
use Rattle.table.specs.Limits.{suits}
use Rattle.table.specs.Rows.{empty_row, on_core, past, row_at}
use Rattle.table.specs.declared.board.Board.{Board}
use Rattle.table.specs.declared.row.Row.{Row}

-- a rank that is free is no task's

none_has : (test : ℕ → Bool) (o : Option ℕ) → FirstBelow test 64 o → not (is_some o) ≡ true → (j : ℕ) → j < 64 → test j ≡ true → ⊥
none_has test None h e = h
none_has test (Some i) h e = absurd (both_ways false refl e)

pub free_rank : (rows : List Row) (core rank : ℕ) → rank_free rows core rank ≡ true → (1 ≤ rank) × (rank ≤ 64) × ((j : ℕ) → on_core rows core j ≡ true → (row_at rows j).rank ≡ rank → ⊥)
free_rank rows core rank e =
    let test = has_rank rows (on_core rows core) rank in
    let a = and_parts (leb 1 rank && leb rank 64) (not (is_some (rank_holder rows (on_core rows core) rank))) e in
    let b = and_parts (leb 1 rank) (leb rank 64) a.0 in (
      leb-true 1 rank b.0,
      leb-true rank 64 b.1,
      λ j on same. none_has test (rank_holder rows (on_core rows core) rank) (first_is test 64) a.1 j (task_below rows j (on_core_task rows core j on)) (and_from (on_core rows core j) (eqb (row_at rows j).rank rank) on (eq-eqb _ _ same)),
    )

-- one row written

abbrev used_of : Row → Bool
used_of row = row.used

module _ (board : Board) (rows : List Row) (n : ℕ) (row : Row) (inside : n < length rows) (h : WellFormed board rows)
    (lawful : row.used ≡ true → LawfulRow board row)
    (alone : row.used ≡ true → (j : ℕ) → j < 64 → (j ≡ n → ⊥) → (row_at rows j).used ≡ true → (row_at rows j).core ≡ row.core → (row_at rows j).rank ≡ row.rank → ⊥)
    (bare : row.used ≡ false → row ≡ empty_row) where
  there : (i : ℕ) → i ≡ n → row_at (set rows n row) i ≡ row
  there i e = ap (row_at (set rows n row)) e ∙ get_or-set_same rows n row past inside

  other : (i : ℕ) → (i ≡ n → ⊥) → row_at (set rows n row) i ≡ row_at rows i
  other i ne = get_or-set_other rows n i row past ne

  is_used : (i : ℕ) (q : Row) → row_at (set rows n row) i ≡ q → (row_at (set rows n row) i).used ≡ true → q.used ≡ true
  is_used i q e u = ap used_of (sym e) ∙ u

  -- the row written shares no rank with another
  clash : (i j : ℕ) → i ≡ n → (j ≡ n → ⊥) → j < 64 → (row_at (set rows n row) i).used ≡ true → (row_at (set rows n row) j).used ≡ true → (row_at (set rows n row) i).core ≡ (row_at (set rows n row) j).core → (row_at (set rows n row) i).rank ≡ (row_at (set rows n row) j).rank → ⊥
  clash i j e ne l u v c r =
      alone (is_used i row (there i e) u) j l ne (is_used j (row_at rows j) (other j ne) v)
      (ap (λ (z : Row). z.core) (sym (other j ne)) ∙ sym c ∙ ap (λ (z : Row). z.core) (there i e))
      (ap (λ (z : Row). z.rank) (sym (other j ne)) ∙ sym r ∙ ap (λ (z : Row). z.rank) (there i e))

  pub set_formed : WellFormed board (set rows n row)
  set_formed = record {
    lawful = λ i l u.
        ⊎_elim
        (λ e. subst (LawfulRow board) (sym (there i e)) (lawful (is_used i row (there i e) u)))
        (λ ne. subst (LawfulRow board) (sym (other i ne)) (h.lawful i l (is_used i (row_at rows i) (other i ne) u)))
        (cases_eq i n);
    apart = λ i j l k u v c r.
        ⊎_elim
        (λ e. ⊎_elim (λ f. e ∙ sym f) (λ ne. absurd (clash i j e ne k u v c r)) (cases_eq j n))
        (λ ne. ⊎_elim
        (λ f. absurd (clash j i f ne l v u (sym c) (sym r)))
        (λ nf. h.apart i j l k (is_used i (row_at rows i) (other i ne) u) (is_used j (row_at rows j) (other j nf) v)
        (ap (λ (z : Row). z.core) (sym (other i ne)) ∙ c ∙ ap (λ (z : Row). z.core) (other j nf))
        (ap (λ (z : Row). z.rank) (sym (other i ne)) ∙ r ∙ ap (λ (z : Row). z.rank) (other j nf)))
        (cases_eq j n))
        (cases_eq i n);
    empty = λ i l u.
        ⊎_elim
        (λ e. there i e ∙ bare (ap used_of (sym (there i e)) ∙ u))
        (λ ne. other i ne ∙ h.empty i (omega (arith, length-set rows n row)) (ap used_of (sym (other i ne)) ∙ u))
        (cases_eq i n);
  }

-- ranks written

falls_apart : (rows : List Row) (xs : List ℕ) → Falls rows xs → (i j : ℕ) → named xs i ≡ true → named xs j ≡ true → (row_at rows i).rank ≡ (row_at rows j).rank → i ≡ j
falls_apart rows [] f i j a b e = absurd (both_ways false refl a)
falls_apart rows (x ∷ up) (f, fs) i j a b e =
    ⊎_elim
    (λ p. ⊎_elim
    (λ q. falls_apart rows up fs i j p q e)
    (λ q. absurd (omega (arith, f i p, ap (λ k. (row_at rows k).rank) (named_either x up j b q), e)))
    (cases_Bool (named up j)))
    (λ p. ⊎_elim
    (λ q. absurd (omega (arith, f j q, ap (λ k. (row_at rows k).rank) (named_either x up i a p), e)))
    (λ q. named_either x up i a p ∙ sym (named_either x up j b q))
    (cases_Bool (named up j)))
    (cases_Bool (named up i))

module _ (board : Board) (rows : List Row) (core : ℕ) (xs : List ℕ) (after : List Row) (writes : Writes rows xs after) (o : OrderOf (on_core rows core) xs) (h : WellFormed board rows) where
  used_kept : (i : ℕ) → (row_at after i).used ≡ (row_at rows i).used
  used_kept i = ap used_of (writes.but_ranks i)

  core_kept : (i : ℕ) → (row_at after i).core ≡ (row_at rows i).core
  core_kept i = ap (λ (z : Row). z.core) (writes.but_ranks i)

  -- a task named has a rank written, and any other row is as it was
  ranked_lawful : (i : ℕ) → LawfulRow board (row_at rows i) → LawfulRow board (row_at after i)
  ranked_lawful i old =
      ⊎_elim
      (λ e.
      let rank = writes.ranks core o i e in
      record {
        core_below = subst (λ c. c < board.cores) (sym (core_kept i)) old.core_below;
        rank_from = rank.0;
        rank_to = omega (arith, rank.1, order_short rows core xs o);
        limits = ap (λ (z : Row). suits board z.figures) (writes.but_ranks i) ∙ old.limits;
      })
      (λ e. subst (LawfulRow board) (sym (writes.others i e)) old)
      (cases_Bool (named xs i))

  -- of two used rows of a core, both are named or none
  named_too : (i j : ℕ) → j < 64 → (row_at rows j).used ≡ true → (row_at rows i).core ≡ (row_at rows j).core → named xs i ≡ true → named xs j ≡ true
  named_too i j l u c e = o.each j ∙ used_on board rows core j h l u (sym c ∙ on_core_is rows core i (sym (o.each i) ∙ e))

  pub ranked_formed : WellFormed board after
  ranked_formed = record {
    lawful = λ i l u. ranked_lawful i (h.lawful i l (sym (used_kept i) ∙ u));
    apart = λ i j l k u v c r.
        let u' : (row_at rows i).used ≡ true = sym (used_kept i) ∙ u in
        let v' : (row_at rows j).used ≡ true = sym (used_kept j) ∙ v in
        let c' : (row_at rows i).core ≡ (row_at rows j).core = sym (core_kept i) ∙ c ∙ core_kept j in
        ⊎_elim
        (λ e. falls_apart after xs (writes.present core o).falls i j e (named_too i j k v' c' e) r)
        (λ e. ⊎_elim
        (λ f. absurd (both_ways (named xs i) e (named_too j i l u' (sym c') f)))
        (λ f. h.apart i j l k u' v' c' (ap (λ (z : Row). z.rank) (sym (writes.others i e)) ∙ r ∙ ap (λ (z : Row). z.rank) (writes.others j f)))
        (cases_Bool (named xs j)))
        (cases_Bool (named xs i));
    empty = λ i l u.
        ⊎_elim
        (λ e. absurd (both_ways (row_at rows i).used (sym (used_kept i) ∙ u) (task_used rows i (on_core_task rows core i (sym (o.each i) ∙ e)))))
        (λ e. writes.others i e ∙ h.empty i (omega (arith, writes.same_length)) (sym (used_kept i) ∙ u))
        (cases_Bool (named xs i));
  }
