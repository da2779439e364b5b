-- The task that a judging names, if any: by induction over the numbers that were looked at, it fails and none of them
-- that fails has a higher rank.
use Rattle.std.proofs.Common.{◌≡◌, ℕ, zero, suc, ◌+◌, ◌<◌, ◌≤◌, Bool, true, false, cond, not, ◌&&◌, ltb, ◌⊎◌, List, is_some, Some, None, Option, sym, refl, ap, ◌∙◌, subst, inl, inr, ⊎_elim, add-one, arith}
use Rattle.ordering.proofs.Lawful.{on_core_below}
use Rattle.ordering.specs.Judging.{Judges, fails, higher_of, unbound, unbound_below}
use Rattle.ordering.specs.Orders.{Answers}
use Rattle.std.proofs.lemmas.Bool.{and_parts, both_ways, cases_Bool, cases_lt, cond-false, cond-true, ltb-false, ltb-true}
use Rattle.table.specs.Ranks.{higher_ranked}
use Rattle.table.specs.Rows.{on_core, row_at}
use Rattle.table.specs.Sets.{Set}
use Rattle.table.specs.declared.row.Row.{Row}

module _ (ask : Answers) (rows : List Row) (tasks : Set) where
  abbrev bad : ℕ → Bool
  bad = fails ask rows tasks

  -- what is known of the numbers below n
  abbrev pub Known : ℕ → Option ℕ → Type 0
  Known n None = (i : ℕ) → i < n → bad i ≡ false
  Known n (Some i) = (bad i ≡ true) × ((j : ℕ) → j < n → bad j ≡ true → (row_at rows i).rank ≤ (row_at rows j).rank)

  pub unbound_none : None ≡ unbound_below ask rows tasks 0
  unfolding unbound_below
  unbound_none = refl

  pub unbound_yes : (n : ℕ) (o : Option ℕ) → o ≡ unbound_below ask rows tasks n → bad n ≡ true → higher_of rows o n ≡ unbound_below ask rows tasks (n + 1)
  unfolding unbound_below
  unbound_yes n o e h = ap (λ x. higher_of rows x n) e ∙ sym (cond-true (bad n) (higher_of rows (unbound_below ask rows tasks n) n) (unbound_below ask rows tasks n) h) ∙ ap (unbound_below ask rows tasks) (sym (add-one n))

  pub unbound_no : (n : ℕ) (o : Option ℕ) → o ≡ unbound_below ask rows tasks n → bad n ≡ false → o ≡ unbound_below ask rows tasks (n + 1)
  unfolding unbound_below
  unbound_no n o e h = e ∙ sym (cond-false (bad n) (higher_of rows (unbound_below ask rows tasks n) n) (unbound_below ask rows tasks n) h) ∙ ap (unbound_below ask rows tasks) (sym (add-one n))

  last_or : (n i : ℕ) → i < suc n → (i < n) ⊎ (i ≡ n)
  last_or n i h = ⊎_elim (λ l. inl l) (λ l. inr (omega arith)) (cases_lt i n)

  rank_same : (i j : ℕ) → i ≡ j → (row_at rows i).rank ≡ (row_at rows j).rank
  rank_same i j e = ap (λ x. (row_at rows x).rank) e

  more_no : (n : ℕ) (o : Option ℕ) → bad n ≡ false → Known n o → Known (suc n) o
  more_no n None f h = λ i l. ⊎_elim (λ m. h i m) (λ e. ap bad e ∙ f) (last_or n i l)
  more_no n (Some i) f h = (h.0, λ j l g. ⊎_elim (λ m. h.1 j m g) (λ e. absurd (both_ways _ f (ap bad (sym e) ∙ g))) (last_or n j l))

  pick : (n i : ℕ) (b : Bool) → ltb (row_at rows n).rank (row_at rows i).rank ≡ b → bad n ≡ true → Known n (Some i) → Known (suc n) (cond b (Some n) (Some i))
  pick n i true e f h =
      (f, λ j l g. ⊎_elim (λ m. omega (arith, ltb-true _ _ e, h.1 j m g)) (λ s. omega (arith, rank_same j n s)) (last_or n j l))
  pick n i false e f h =
      (h.0, λ j l g. ⊎_elim (λ m. h.1 j m g) (λ s. omega (arith, rank_same j n s, ltb-false _ _ e)) (last_or n j l))

  more_yes : (n : ℕ) (o : Option ℕ) → bad n ≡ true → Known n o → Known (suc n) (higher_of rows o n)
  more_yes n None f h = (f, λ j l g. ⊎_elim (λ m. absurd (both_ways _ (h j m) g)) (λ e. omega (arith, rank_same j n e)) (last_or n j l))
  more_yes n (Some i) f h = pick n i (ltb (row_at rows n).rank (row_at rows i).rank) refl f h

  pub known : (n : ℕ) → Known n (unbound_below ask rows tasks n)
  known zero = subst (Known 0) unbound_none (λ i l. absurd (omega arith))
  known (suc n) =
      ⊎_elim
      (λ f. subst (Known (suc n)) (unbound_yes n (unbound_below ask rows tasks n) refl f ∙ ap (unbound_below ask rows tasks) (add-one n)) (more_yes n (unbound_below ask rows tasks n) f (known n)))
      (λ f. subst (Known (suc n)) (unbound_no n (unbound_below ask rows tasks n) refl f ∙ ap (unbound_below ask rows tasks) (add-one n)) (more_no n (unbound_below ask rows tasks n) f (known n)))
      (cases_Bool (bad n))

not_failing : (a b : Bool) → a ≡ true → (a && not b) ≡ false → b ≡ true
not_failing true true e f = refl
not_failing true false e f = absurd (both_ways true f refl)
not_failing false b e f = absurd (both_ways false refl e)

module _ (ask : Answers) (rows : List Row) (core : ℕ) where
  told : (o : Option ℕ) → Known ask rows (on_core rows core) 64 o → Judges ask rows core o
  told None h = λ i on. not_failing (on_core rows core i) (is_some (ask i (higher_ranked rows i))) on (h i (on_core_below rows core i on))
  told (Some i) h = (h.0, λ j g. h.1 j (on_core_below rows core j (and_parts (on_core rows core j) (not (is_some (ask j (higher_ranked rows j)))) g).0) g)

  pub judged : (o : Option ℕ) → o ≡ unbound ask rows (on_core rows core) → Judges ask rows core o
  judged o e = told o (subst (Known ask rows (on_core rows core) 64) (sym e) (known ask rows (on_core rows core) 64))
