-- Writing ranks changes nothing but ranks. Of an order of a core's tasks the first place gets the largest number, and
-- every later one a smaller: so the order is the present order, and a test, blind to ranks, answers as before.
use Rattle.std.proofs.Common.{◌≡◌, ℕ, ◌-◌, ◌<◌, ◌≤◌, Bool, true, false, ◌&&◌, eqb, ltb, List, [], ◌∷◌, map, length, drop, sym, refl, ap, ◌∙◌, subst, ⊎_elim, arith}
use Rattle.ordering.proofs.Listing.{named_either, named_head, named_later}
use Rattle.ordering.proofs.Presents.{present_bounded}
use Rattle.ordering.specs.Orders.{Answers, Distinct, FirstOrder, OrderOf, named}
use Rattle.ordering.specs.Present.{Falls, PresentOrder}
use Rattle.ordering.specs.Search.{DecidesOrder, Outcome, ordered, refused}
use Rattle.ordering.specs.Writing.{OrdersCore, RanksFirst, Writes, after_search, ranked_by, reranked, with_rank, written}
use Rattle.std.proofs.lemmas.List.{drop-set-lt, get_or-set_other, get_or-set_same, length-set, set_past}
use Rattle.std.proofs.lemmas.Bool.{both_ways, cases_Bool, cases_eq, cases_lt, eqb-false, or_parts}
use Rattle.std.specs.List.{range_with_len}
use Rattle.table.proofs.Places.{no_task_outside, on_core_task}
use Rattle.table.specs.Rows.{holds_task, is_task, on_core, past, plain, plain_row, row_at}
use Rattle.table.specs.Sets.{Set}
use Rattle.table.specs.Tests.{Laws, Meaning}
use Rattle.table.specs.declared.board.Board.{Board}
use Rattle.table.specs.declared.row.Row.{Row}
use mathlib.Core.Path.{fun_ext}

-- nothing but ranks

one_kept : (rows : List Row) (i r j : ℕ) → with_rank (row_at (reranked rows i r) j) 1 ≡ with_rank (row_at rows j) 1
one_kept rows i r j =
    ⊎_elim
    (λ e. ⊎_elim
    (λ inside. ap (λ n. with_rank (row_at (reranked rows i r) n) 1) e ∙ ap (λ q. with_rank q 1) (get_or-set_same rows i (with_rank (row_at rows i) r) past inside) ∙ ap (λ n. with_rank (row_at rows n) 1) (sym e))
    (λ over. ap (λ xs. with_rank (row_at xs j) 1) (set_past rows i (with_rank (row_at rows i) r) over))
    (cases_lt i (length rows)))
    (λ ne. ap (λ q. with_rank q 1) (get_or-set_other rows i j (with_rank (row_at rows i) r) past ne))
    (cases_eq j i)

row_kept : (order : List ℕ) (rows : List Row) (r j : ℕ) → with_rank (row_at (ranked_by rows order r) j) 1 ≡ with_rank (row_at rows j) 1
row_kept [] rows r j = refl
row_kept (i ∷ is) rows r j = row_kept is (reranked rows i r) (r - 1) j ∙ one_kept rows i r j

pub core_kept : (order : List ℕ) (rows : List Row) (r core j : ℕ) → on_core (ranked_by rows order r) core j ≡ on_core rows core j
unfolding on_core is_task
core_kept order rows r core j = ap (λ (q : Row). (ltb j 64 && holds_task q) && eqb q.core core) (row_kept order rows r j)

plain_kept : (order : List ℕ) (rows : List Row) (r : ℕ) → plain (ranked_by rows order r) ≡ plain rows
unfolding plain
plain_kept order rows r = ap (λ f. map f (range_with_len 0 64)) (fun_ext (λ j. ap (λ (q : Row). plain_row q) (row_kept order rows r j)))

length_kept : (order : List ℕ) (rows : List Row) (r : ℕ) → length (ranked_by rows order r) ≡ length rows
length_kept [] rows r = refl
length_kept (i ∷ is) rows r = length_kept is (reranked rows i r) (r - 1) ∙ length-set rows i (with_rank (row_at rows i) r)

pub outside : (order : List ℕ) (rows : List Row) (r j : ℕ) → named order j ≡ false → row_at (ranked_by rows order r) j ≡ row_at rows j
outside [] rows r j h = refl
outside (i ∷ is) rows r j h =
    let p = or_parts (eqb j i) (named is j) h in
    outside is (reranked rows i r) (r - 1) j p.1 ∙ get_or-set_other rows i j (with_rank (row_at rows i) r) past (eqb-false j i p.0)

rest_kept : (order : List ℕ) (rows : List Row) (r n : ℕ) → ((j : ℕ) → named order j ≡ true → j < n) → drop n (ranked_by rows order r) ≡ drop n rows
rest_kept [] rows r n h = refl
rest_kept (i ∷ is) rows r n h = rest_kept is (reranked rows i r) (r - 1) n (λ j e. h j (named_later i is j e)) ∙ drop-set-lt n rows i (with_rank (row_at rows i) r) (h i (named_head i is))

-- the ranks written

module _ (core : ℕ) where
  abbrev AllOn : List Row → List ℕ → Type 0
  AllOn rows order = (j : ℕ) → named order j ≡ true → on_core rows core j ≡ true

  inside : (rows : List Row) (i : ℕ) → on_core rows core i ≡ true → i < length rows
  inside rows i on =
      ⊎_elim (λ l. l) (λ g. absurd (both_ways (is_task rows i) (no_task_outside rows i g) (on_core_task rows core i on))) (cases_lt i (length rows))

  on_later : (rows : List Row) (i : ℕ) (is : List ℕ) (r : ℕ) → AllOn rows (i ∷ is) → AllOn (reranked rows i r) is
  on_later rows i is r on j h = core_kept (i ∷ []) rows r core j ∙ on j (named_later i is j h)

  first_rank : (rows : List Row) (i : ℕ) (is : List ℕ) (r : ℕ) → AllOn rows (i ∷ is) → named is i ≡ false → (row_at (ranked_by rows (i ∷ is) r) i).rank ≡ r
  first_rank rows i is r on apart =
      ap (λ (q : Row). q.rank) (outside is (reranked rows i r) (r - 1) i apart ∙ get_or-set_same rows i (with_rank (row_at rows i) r) past (inside rows i (on i (named_head i is))))

  -- no rank that is written exceeds the first
  at_most : (order : List ℕ) (rows : List Row) (r j : ℕ) → AllOn rows order → named order j ≡ true → (row_at (ranked_by rows order r) j).rank ≤ r
  at_most [] rows r j on h = absurd (both_ways false refl h)
  at_most (i ∷ is) rows r j on h =
      ⊎_elim
      (λ e. omega (arith, at_most is (reranked rows i r) (r - 1) j (on_later rows i is r on) e))
      (λ e.
      let same = named_either i is j h e in
      omega (arith, ap (λ n. (row_at (ranked_by rows (i ∷ is) r) n).rank) same, first_rank rows i is r on (ap (named is) (sym same) ∙ e)))
      (cases_Bool (named is j))

  at_least : (order : List ℕ) (rows : List Row) (r j : ℕ) → AllOn rows order → length order ≤ r → named order j ≡ true → 1 ≤ (row_at (ranked_by rows order r) j).rank
  at_least [] rows r j on few h = absurd (both_ways false refl h)
  at_least (i ∷ is) rows r j on few h =
      ⊎_elim
      (λ e. at_least is (reranked rows i r) (r - 1) j (on_later rows i is r on) (omega (arith, few)) e)
      (λ e.
      let same = named_either i is j h e in
      omega (arith, few, ap (λ n. (row_at (ranked_by rows (i ∷ is) r) n).rank) same, first_rank rows i is r on (ap (named is) (sym same) ∙ e)))
      (cases_Bool (named is j))

  falls : (order : List ℕ) (rows : List Row) (r : ℕ) → AllOn rows order → Distinct order → length order ≤ r → Falls (ranked_by rows order r) order
  falls [] rows r on d few = tt
  falls (i ∷ is) rows r on d few = (
    λ j h. omega (arith, few, at_most is (reranked rows i r) (r - 1) j (on_later rows i is r on) h, first_rank rows i is r on d.0),
    falls is (reranked rows i r) (r - 1) (on_later rows i is r on) d.1 (omega (arith, few)),
  )

  present : (order : List ℕ) (rows : List Row) → OrderOf (on_core rows core) order → PresentOrder (written rows order) core order
  present order rows o = record {
    order = record { once = o.once; each = λ j. o.each j ∙ sym (core_kept order rows (length order) core j) };
    falls = falls order rows (length order) (λ j h. sym (o.each j) ∙ h) o.once (omega arith);
  }

pub written_writes : (rows : List Row) (order : List ℕ) (after : List Row) → after ≡ written rows order → Writes rows order after
written_writes rows order after e =
    subst (Writes rows order) (sym e)
    (record {
      same_length = length_kept order rows (length order);
      but_ranks = row_kept order rows (length order);
      others = outside order rows (length order);
      rest = rest_kept order rows (length order);
      present = λ core o. present core order rows o;
      ranks = λ core o j h. (
        at_least core order rows (length order) j (λ k e. sym (o.each k) ∙ e) (omega arith) h,
        at_most core order rows (length order) j (λ k e. sym (o.each k) ∙ e) h,
      );
    })

-- what a test sees

module _ (wide : Bool) (meaning : Meaning) (laws : Laws wide meaning) (board : Board) where
  pub same_answers : (order : List ℕ) (rows : List Row) (r : ℕ) → meaning board rows ≡ meaning board (ranked_by rows order r)
  same_answers order rows r = fun_ext (λ i. fun_ext (λ H.
      laws.ranks board rows i H ∙ ap (λ z. meaning board z i H) (sym (plain_kept order rows r)) ∙ sym (laws.ranks board (ranked_by rows order r) i H)))

  ranks_first : (rows : List Row) (core : ℕ) (xs : List ℕ) → FirstOrder (meaning board rows) (on_core rows core) xs → RanksFirst (meaning board) rows core xs (written rows xs)
  ranks_first rows core xs b =
      let after : List Row = written rows xs in
      let there : PresentOrder after core xs = present core xs rows b.order in
      let first : FirstOrder (meaning board after) (on_core after core) xs =
      subst (λ (a : Answers). FirstOrder a (on_core after core) xs) (same_answers xs rows (length xs))
      (subst (λ (U : Set). FirstOrder (meaning board rows) U xs) (fun_ext (λ j. sym (core_kept xs rows (length xs) core j))) b) in
      record { writes = written_writes rows xs after refl; present = there; first = first; bounded = present_bounded after core (meaning board after) xs there first.passes }

  -- the theorem of ordering a core
  pub orders : (rows : List Row) (core : ℕ) (o : Outcome) (after : List Row) → DecidesOrder (meaning board rows) (on_core rows core) o → after ≡ after_search rows o → OrdersCore (meaning board) rows core o after
  orders rows core (ordered xs t) after d e = subst (RanksFirst (meaning board) rows core xs) (sym e) (ranks_first rows core xs d)
  orders rows core (refused t unplaced) after d e = (e, d)
