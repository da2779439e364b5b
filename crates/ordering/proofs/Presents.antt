-- In a present order the tasks above a task are exactly those ranked above it: later in the list means a smaller rank
-- number, and whoever is not later has a larger one. So a present order passes exactly when each task has a bound under
-- its rank.
use Rattle.std.proofs.Common.{◌≡◌, ℕ, ◌<◌, true, false, ◌&&◌, eqb, ltb, List, [], ◌∷◌, is_some, sym, refl, ap, ◌∙◌, ⊎_elim, arith}
use Rattle.ordering.proofs.Listing.{named_either, named_head, named_later}
use Rattle.ordering.specs.Orders.{Answers, Passes, named}
use Rattle.ordering.specs.Present.{Bounded, Falls, PresentOrder}
use Rattle.std.proofs.lemmas.Bool.{and_from, and_left, and_right, both_ways, cases_Bool, cases_eq, le-ltb, lt-ltb, ne_eqb, or_from}
use Rattle.table.proofs.Places.{on_core_is}
use Rattle.table.specs.Ranks.{higher_ranked}
use Rattle.table.specs.Rows.{on_core, row_at}
use Rattle.table.specs.declared.row.Row.{Row}
use mathlib.Core.Path.{fun_ext}

module _ (rows : List Row) (core : ℕ) where
  -- the tasks of the core outside the list have larger rank numbers than those in it
  abbrev Below : List ℕ → Type 0
  Below xs = (j x : ℕ) → on_core rows core j ≡ true → named xs j ≡ false → named xs x ≡ true → (row_at rows x).rank < (row_at rows j).rank

  abbrev AllOn : List ℕ → Type 0
  AllOn xs = (j : ℕ) → named xs j ≡ true → on_core rows core j ≡ true

  module _ (x : ℕ) (up : List ℕ) (on : AllOn (x ∷ up)) (falls : (j : ℕ) → named up j ≡ true → (row_at rows j).rank < (row_at rows x).rank) (below : Below (x ∷ up)) where
    -- j is not above x in the list
    not_above : (j : ℕ) → named up j ≡ false → (on_core rows core j && ltb (row_at rows j).rank (row_at rows x).rank) ≡ false
    not_above j out =
        ⊎_elim
        (λ c. and_right (on_core rows core j) (ltb (row_at rows j).rank (row_at rows x).rank)
        (⊎_elim
        (λ e. le-ltb _ _ (omega (arith, ap (λ n. (row_at rows n).rank) e)))
        (λ ne. le-ltb _ _ (omega (arith, below j x c (or_from (eqb j x) (named up j) (ne_eqb j x ne) out) (named_head x up))))
        (cases_eq j x)))
        (λ c. and_left (on_core rows core j) (ltb (row_at rows j).rank (row_at rows x).rank) c)
        (cases_Bool (on_core rows core j))

    above_is : (j : ℕ) → higher_ranked rows x j ≡ named up j
    unfolding higher_ranked
    above_is j =
        ap (λ k. on_core rows k j && ltb (row_at rows j).rank (row_at rows x).rank) (on_core_is rows core x (on x (named_head x up)))
        ∙ ⊎_elim
        (λ h. and_from (on_core rows core j) (ltb (row_at rows j).rank (row_at rows x).rank) (on j (named_later x up j h)) (lt-ltb _ _ (falls j h)) ∙ sym h)
        (λ out. not_above j out ∙ sym out)
        (cases_Bool (named up j))

    below_up : Below up
    below_up j y c out h =
        ⊎_elim
        (λ e. omega (arith, falls y h, ap (λ n. (row_at rows n).rank) e))
        (λ ne. below j y c (or_from (eqb j x) (named up j) (ne_eqb j x ne) out) (named_later x up y h))
        (cases_eq j x)

  module _ (ask : Answers) where
    bounded : (xs : List ℕ) → AllOn xs → Falls rows xs → Below xs → Passes ask xs → (i : ℕ) → named xs i ≡ true → is_some (ask i (higher_ranked rows i)) ≡ true
    bounded [] on f below p i h = absurd (both_ways false refl h)
    bounded (x ∷ up) on f below p i h =
        ⊎_elim
        (λ later. bounded up (λ j e. on j (named_later x up j e)) f.1 (below_up x up on f.0 below) p.1 i later)
        (λ first.
        ap (λ n. is_some (ask n (higher_ranked rows n))) (named_either x up i h first)
        ∙ ap (λ H. is_some (ask x H)) (fun_ext (above_is x up on f.0 below))
        ∙ p.0)
        (cases_Bool (named up i))

    -- where the present order passes, each task has a bound under its rank
    pub present_bounded : (xs : List ℕ) → PresentOrder rows core xs → Passes ask xs → Bounded ask rows core
    present_bounded xs o p i on =
        bounded xs (λ j h. sym (o.order.each j) ∙ h) o.falls (λ j x c out h. absurd (both_ways (named xs j) out (o.order.each j ∙ c))) p i (o.order.each i ∙ on)

    passing : (xs : List ℕ) → AllOn xs → Falls rows xs → Below xs → Bounded ask rows core → Passes ask xs
    passing [] on f below b = tt
    passing (x ∷ up) on f below b =
        (ap (λ H. is_some (ask x H)) (sym (fun_ext (above_is x up on f.0 below))) ∙ b x (on x (named_head x up)), passing up (λ j e. on j (named_later x up j e)) f.1 (below_up x up on f.0 below) b)

    -- and the other way round
    pub present_passes : (xs : List ℕ) → PresentOrder rows core xs → Bounded ask rows core → Passes ask xs
    present_passes xs o b =
        passing xs (λ j h. sym (o.order.each j) ∙ h) o.falls (λ j x c out h. absurd (both_ways (named xs j) out (o.order.each j ∙ c))) b
