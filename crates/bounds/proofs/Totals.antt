-- The steps of the loops that add loads up: one load more is one term more, and a load that is not picked adds nothing.
use Rattle.std.proofs.Common.{refl, zero, suc, ◌≡◌, ℕ, ◌+◌, ◌*◌, ◌<◌, ◌≤◌, Bool, true, false, cond, List, [], ◌∷◌, ◌++◌, length, get_or, take, set, replicate, sym, ap, ◌∙◌, subst, inl, inr, arith}
use Rattle.bounds.specs.Adding.{releases_le, times_le}
use Rattle.bounds.specs.Loads.{Added, AtMost, Total, cost_at, no_sums, of_core, seen, weight_at}
use Rattle.bounds.specs.Sums.{sum_to}
use Rattle.std.specs.List.{fold}
use Rattle.bounds.specs.declared.load.Load.{Load}
use Rattle.bounds.specs.declared.load.Sums.{Sums}
use Rattle.least.specs.declared.window.Window.{Window}
use Rattle.std.proofs.lemmas.List.Sums.{fold-append, sum_by_push}
use Rattle.std.proofs.lemmas.List.{get_or-replicate, get_or-set_other, get_or-set_same, take_more}
use Rattle.std.proofs.lemmas.Bool.{cases_eq, cond-false, cond-true, eq-eqb, ne_eqb}
use Rattle.table.proofs.Limited.{each_small}

-- a load is released at most 20,000,000 times in a window
pub seen_le : (window : Window) (x : Load) → seen window.length x ≤ 20000000
seen_le window x = omega (arith, releases_le (window.length + x.ahead.length) x.period x.period_low, window.short, x.ahead.short)

pub at_most_more : (b n : ℕ) (s s' : Sums) (x : Load) → n ≤ 20000000 → AtMost b s → Added s n x s' → AtMost (b + 200000000000000) s'
at_most_more b n s s' x few h a = record {
  cost = omega (arith, h.cost, a.cost, times_le n x.cost few x.cost_high);
  shared = λ r l. omega (arith, h.shared r l, a.shared r l, times_le n (get_or x.weight r 0) few (each_small x.weight x.weight_high r l));
}

pub at_most_weaker : (a b : ℕ) (s : Sums) → a ≤ b → AtMost a s → AtMost b s
at_most_weaker a b s l h = record { cost = omega (arith, h.cost); shared = λ r k. omega (arith, h.shared r k) }

module _ (pick : Load → Bool) (t : ℕ) (start : Sums) where
  module _ (xs : List Load) (x : Load) where
    -- a load that is picked
    pub total_more : (s s' : Sums) → pick x ≡ true → Total pick t start xs s → Added s (seen t x) x s' → Total pick t start (xs ++ x ∷ []) s'
    total_more s s' is h a = record {
      cost = omega (arith, sum_by_push (λ x. cond (pick x) (cost_at t x) 0) xs x, cond-true (pick x) (cost_at t x) 0 is, h.cost, a.cost);
      shared = λ r l. omega (arith, sum_by_push (λ x. cond (pick x) (weight_at r t x) 0) xs x, cond-true (pick x) (weight_at r t x) 0 is, h.shared r l, a.shared r l);
    }

    -- a load that is not
    pub total_skip : (s : Sums) → pick x ≡ false → Total pick t start xs s → Total pick t start (xs ++ x ∷ []) s
    total_skip s is h = record {
      cost = omega (arith, sum_by_push (λ x. cond (pick x) (cost_at t x) 0) xs x, cond-false (pick x) (cost_at t x) 0 is, h.cost);
      shared = λ r l. omega (arith, sum_by_push (λ x. cond (pick x) (weight_at r t x) 0) xs x, cond-false (pick x) (weight_at r t x) 0 is, h.shared r l);
    }

-- the loads up to one that stands at k
pub one_more : (xs : List Load) (k : ℕ) (x : Load) → k < length xs → x ≡ get_or xs k x → take (k + 1) xs ≡ take k xs ++ x ∷ []
one_more xs k x l is = take_more xs k x l ∙ ap (λ y. take k xs ++ y ∷ []) (sym is)

-- the sums of a core, by its number: at the start all are nothing
module _ (window : Window) where
  abbrev t : ℕ
  t = window.length

  -- with n loads
  abbrev pub ByCore : ℕ → List Load → List Sums → ℕ → Type 0
  ByCore n xs sums y = Total (of_core y) t no_sums xs (get_or sums y no_sums) × AtMost (n * 200000000000000) (get_or sums y no_sums)

  pub by_core_none : (zeros : Sums) → (zeros.cost ≡ 0) → ((r : ℕ) → r < 4 → get_or zeros.shared r 0 ≡ 0) → (y : ℕ) → y < 8 → ByCore 0 [] (replicate 8 zeros) y
  by_core_none zeros c z y l =
      subst (λ s. Total (of_core y) t no_sums [] s × AtMost 0 s) (sym (get_or-replicate 8 y zeros no_sums l)) (
        record { cost = omega (arith, c); shared = λ r h. omega (arith, z r h) },
        record { cost = omega (arith, c); shared = λ r h. omega (arith, z r h) },
      )

  pub by_core_more : (n : ℕ) (xs : List Load) (x : Load) (sums : List Sums) (s : Sums) → length sums ≡ 8 → Added (get_or sums x.core no_sums) (seen t x) x s → ((y : ℕ) → y < 8 → ByCore n xs sums y) → (y : ℕ) → y < 8 → ByCore (n + 1) (xs ++ x ∷ []) (set sums x.core s) y
  by_core_more n xs x sums s eight added h y l =
      elim (cases_eq y x.core) [
        | inl same ↦
            let here : get_or (set sums x.core s) y no_sums ≡ s = ap (λ n. get_or (set sums x.core s) n no_sums) same ∙ get_or-set_same sums x.core s no_sums (omega (arith, eight, x.core_low)) in
            subst (λ q. Total (of_core y) t no_sums (xs ++ x ∷ []) q × AtMost ((n + 1) * 200000000000000) q) (sym here) (
              total_more (of_core y) t no_sums xs x (get_or sums y no_sums) s (eq-eqb x.core y (sym same)) (h y l).0 (subst (λ n. Added (get_or sums n no_sums) (seen t x) x s) (sym same) added),
              at_most_weaker _ _ s (omega arith) (at_most_more _ _ (get_or sums x.core no_sums) s x (seen_le window x) (h x.core x.core_low).1 added),
            )
        | inr other ↦
            subst (λ q. Total (of_core y) t no_sums (xs ++ x ∷ []) q × AtMost ((n + 1) * 200000000000000) q) (sym (get_or-set_other sums x.core y s no_sums other)) (
              total_skip (of_core y) t no_sums xs x (get_or sums y no_sums) (ne_eqb x.core y (λ e. other (sym e))) (h y l).0,
              at_most_weaker _ _ (get_or sums y no_sums) (omega arith) (h y l).1,
            )
      ]

-- the sum of the first n numbers of a list
pub folded : (n : ℕ) (xs : List ℕ) → n ≤ length xs → fold (λ a x. a + x) 0 (take n xs) ≡ sum_to n (λ k. get_or xs k 0)
unfolding sum_to
folded zero xs l = refl
folded (suc n) xs l =
    let ends : take (suc n) xs ≡ take n xs ++ get_or xs n 0 ∷ [] = ap (λ m. take m xs) (let z : suc n ≡ n + 1 = omega arith in z) ∙ take_more xs n 0 (omega arith) in
    ap (fold (λ a x. a + x) 0) ends
    ∙ fold-append (λ a x. a + x) 0 (take n xs) (get_or xs n 0 ∷ [])
    ∙ ap (λ a. a + get_or xs n 0) (folded n xs (omega arith))
