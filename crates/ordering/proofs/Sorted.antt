-- A core whose tasks have distinct ranks from 1 to 64 has a present order: go through the ranks from 1 up, and put the
-- task that has a rank, if there is one, below those found so far. What is found up to rank r are the tasks with ranks up
-- to r, each once, their ranks falling.
use Rattle.std.proofs.Common.{◌≡◌, ℕ, zero, suc, ◌≤◌, Bool, true, false, ◌&&◌, eqb, List, [], ◌∷◌, Some, None, Option, sym, refl, ap, ◌∙◌, ⊎_elim, arith}
use Rattle.ordering.proofs.Lawful.{on_core_below}
use Rattle.ordering.proofs.Listing.{named_either, named_head, named_later}
use Rattle.ordering.specs.Orders.{Distinct, named}
use Rattle.ordering.specs.Present.{Falls, PresentOrder}
use Rattle.std.proofs.lemmas.Bool.{and_from, and_parts, both_ways, cases_Bool, cases_eq, eq-eqb, eqb-true}
use Rattle.table.proofs.Firsts.{FirstBelow, first_is}
use Rattle.table.specs.Firsts.{first_that}
use Rattle.table.specs.Rows.{on_core, row_at}
use Rattle.table.specs.declared.row.Row.{Row}

same_bool : (a b : Bool) → (a ≡ true → b ≡ true) → (b ≡ true → a ≡ true) → a ≡ b
same_bool true b f g = sym (f refl)
same_bool false true f g = g refl
same_bool false false f g = refl

module _ (rows : List Row) (core : ℕ) where
  -- a task of the core with rank r
  abbrev at_rank : ℕ → ℕ → Bool
  at_rank r k = on_core rows core k && eqb (row_at rows k).rank r

  abbrev put_below : Option ℕ → List ℕ → List ℕ
  put_below None xs = xs
  put_below (Some i) xs = i ∷ xs

  by_rank : ℕ → List ℕ
  by_rank zero = []
  by_rank (suc r) = put_below (first_that (at_rank (suc r)) 64) (by_rank r)

  module _ (apart : (i j : ℕ) → on_core rows core i ≡ true → on_core rows core j ≡ true → (row_at rows i).rank ≡ (row_at rows j).rank → i ≡ j) where
    record Ranked (r : ℕ) (xs : List ℕ) : Type 0 where
      pub once : Distinct xs
      pub falls : Falls rows xs
      pub listed : (j : ℕ) → named xs j ≡ true → (on_core rows core j ≡ true) × ((row_at rows j).rank ≤ r)
      pub whole : (j : ℕ) → on_core rows core j ≡ true → 1 ≤ (row_at rows j).rank → (row_at rows j).rank ≤ r → named xs j ≡ true

    step : (r : ℕ) (xs : List ℕ) (o : Option ℕ) → FirstBelow (at_rank (suc r)) 64 o → Ranked r xs → Ranked (suc r) (put_below o xs)
    step r xs None none h = record {
      once = h.once;
      falls = h.falls;
      listed = λ j e. let t = h.listed j e in (t.0, omega (arith, t.1));
      whole = λ j on lo hi.
          ⊎_elim
          (λ e. absurd (none j (on_core_below rows core j on) (and_from (on_core rows core j) (eqb (row_at rows j).rank (suc r)) on (eq-eqb _ _ e))))
          (λ ne. h.whole j on lo (omega (arith, hi, ne)))
          (cases_eq (row_at rows j).rank (suc r));
    }
    step r xs (Some i) found h =
        let parts = and_parts (on_core rows core i) (eqb (row_at rows i).rank (suc r)) found.1 in
        let rank_i : (row_at rows i).rank ≡ suc r = eqb-true _ _ parts.1 in
        let new : named xs i ≡ false = ⊎_elim (λ e. absurd (omega (arith, (h.listed i e).1, rank_i))) (λ e. e) (cases_Bool (named xs i)) in
        record {
          once = (new, h.once);
          falls = (λ j e. omega (arith, (h.listed j e).1, rank_i), h.falls);
          listed = λ j e.
              ⊎_elim
              (λ later. let t = h.listed j later in (t.0, omega (arith, t.1)))
              (λ first.
              let same : j ≡ i = named_either i xs j e first in
              (ap (on_core rows core) same ∙ parts.0, omega (arith, ap (λ x. (row_at rows x).rank) same, rank_i)))
              (cases_Bool (named xs j));
          whole = λ j on lo hi.
              ⊎_elim
              (λ e. ap (named (i ∷ xs)) (apart j i on parts.0 (e ∙ sym rank_i)) ∙ named_head i xs)
              (λ ne. named_later i xs j (h.whole j on lo (omega (arith, hi, ne))))
              (cases_eq (row_at rows j).rank (suc r));
        }

    ranked : (r : ℕ) → Ranked r (by_rank r)
    unfolding by_rank
    ranked zero = record { once = tt; falls = tt; listed = λ j e. absurd (both_ways false refl e); whole = λ j on lo hi. absurd (omega (arith, lo, hi)) }
    ranked (suc r) = step r (by_rank r) (first_that (at_rank (suc r)) 64) (first_is (at_rank (suc r)) 64) (ranked r)

    pub has_present : ((i : ℕ) → on_core rows core i ≡ true → (1 ≤ (row_at rows i).rank) × ((row_at rows i).rank ≤ 64)) → (xs : List ℕ) × PresentOrder rows core xs
    has_present ranges =
        let all : Ranked 64 (by_rank 64) = ranked 64 in (
          by_rank 64,
          record {
            order = record {
              once = all.once;
              each = λ j. same_bool (named (by_rank 64) j) (on_core rows core j) (λ e. (all.listed j e).0) (λ on. let t = ranges j on in all.whole j on t.0 t.1);
            };
            falls = all.falls;
          },
        )
