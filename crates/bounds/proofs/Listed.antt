-- Lists of 64 numbers, one round's list, and the test of two lists.
use Rattle.std.proofs.Common.{◌≡◌, ℕ, ◌+◌, ◌<◌, true, false, not, List, length, get_or, set, is_some, Some, None, Ok, Err, Decides, Option, Result, sym, refl, ap, ◌∙◌, subst, inl, inr, arith}
use Rattle.bounds.specs.Lengths.{length_of}
use Rattle.bounds.specs.Rounds.{all_or_first, each, lacks, number_of, same}
use Rattle.std.proofs.lemmas.List.FromFn.{fill_by_all, get_or-map-range_with_len, length-map-range_with_len}
use Rattle.std.proofs.lemmas.List.Edits.{fill_by_more}
use Rattle.std.proofs.lemmas.Slice.Eq.{IsBytesEq, compares_Decides}
use Rattle.std.proofs.lemmas.List.{length-set}
use Rattle.std.proofs.lemmas.Bool.{both_ways, cases_Bool}
use Rattle.table.proofs.Firsts.{FirstBelow, first_is, first_no, first_none, first_stays, first_yes}
use Rattle.table.specs.Firsts.{first_that}

pub each_size : (f : ℕ → ℕ) → length (each f) ≡ 64
each_size f = length-map-range_with_len f 0 64

pub each_at : (f : ℕ → ℕ) (i : ℕ) → i < 64 → length_of (each f) i ≡ f i
each_at f i l = get_or-map-range_with_len f 0 64 i i 0 l (omega arith)

-- a bound that is not lacking, as the number that it is

is_number : (o : Option ℕ) → not (is_some o) ≡ false → o ≡ Some (number_of o)
is_number None e = absurd (both_ways true e refl)
is_number (Some t) e = refl

is_none : (o : Option ℕ) → not (is_some o) ≡ true → o ≡ None
is_none None e = refl
is_none (Some t) e = absurd (both_ways false refl e)

none_lacks : (o : Option ℕ) → o ≡ None → not (is_some o) ≡ true
none_lacks o e = ap (λ x. not (is_some x)) e

-- a round's list: what f gives at each number
abbrev pub EachOk : (ℕ → Option ℕ) → List ℕ → Type 0
EachOk f list = (length list ≡ 64) × ((i : ℕ) → i < 64 → f i ≡ Some (length_of list i))

-- the smallest number at which f gives none
abbrev pub EachErr : (ℕ → Option ℕ) → ℕ → Type 0
EachErr f i = (i < 64) × (f i ≡ None) × ((j : ℕ) → j < i → f j ≡ None → ⊥)

abbrev Each : (ℕ → Option ℕ) → Result (List ℕ) ℕ → Type 0
Each f (Ok list) = EachOk f list
Each f (Err i) = EachErr f i

all_is : (f : ℕ → Option ℕ) (o : Option ℕ) → FirstBelow (lacks f) 64 o → Each f (all_or_first f o)
all_is f None none = (
  each_size (λ i. number_of (f i)),
  λ i l.
      let full : lacks f i ≡ false = elim (cases_Bool (lacks f i)) [ inl yes' ↦ absurd (none i l yes') | inr no' ↦ no' ] in
      is_number (f i) full ∙ ap Some (sym (each_at (λ j. number_of (f j)) i l)),
)
all_is f (Some i) h = (h.0, is_none (f i) h.1, λ j l e. h.2 j l (none_lacks (f j) e))

module _ (f : ℕ → Option ℕ) where
  each_is : Each f (all_or_first f (first_that (lacks f) 64))
  each_is = all_is f (first_that (lacks f) 64) (first_is (lacks f) 64)

  pub each_ok : (list : List ℕ) → all_or_first f (first_that (lacks f) 64) ≡ Ok list → EachOk f list
  each_ok list e = subst (Each f) e each_is

  pub each_err : (i : ℕ) → all_or_first f (first_that (lacks f) 64) ≡ Err i → EachErr f i
  each_err i e = subst (Each f) e each_is

-- the steps of a loop that writes a round's list
abbrev pub Filled : (ℕ → Option ℕ) → ℕ → List ℕ → Type 0
Filled f i list = (length list ≡ 64) × (first_that (lacks f) i ≡ None) × ((k : ℕ) → k < i → get_or list k 0 ≡ number_of (f k))

module _ (f : ℕ → Option ℕ) where
  pub filled_none : (list : List ℕ) → length list ≡ 64 → Filled f 0 list
  filled_none list size = (size, first_none (lacks f), λ k l. absurd (omega arith))

  pub filled_more : (i b : ℕ) (list : List ℕ) → i < 64 → Some b ≡ f i → Filled f i list → Filled f (i + 1) (set list i b)
  filled_more i b list l e h = (
    length-set list i b ∙ h.0,
    first_no (lacks f) i h.1 (ap (λ o. not (is_some o)) (sym e)),
    subst (λ n. (k : ℕ) → k < i + 1 → get_or (set list i n) k 0 ≡ number_of (f k)) (sym (ap number_of e)) (fill_by_more (λ k. number_of (f k)) list i 0 (omega (arith, h.0)) h.2),
  )

  pub filled_stop : (i : ℕ) (list : List ℕ) → i < 64 → None ≡ f i → Filled f i list → Err i ≡ all_or_first f (first_that (lacks f) 64)
  filled_stop i list l e h = sym (ap (all_or_first f) (first_stays (lacks f) (i + 1) 64 i (omega arith) (first_yes (lacks f) i h.1 (ap (λ o. not (is_some o)) (sym e)))))

  pub filled_all : (i : ℕ) (list : List ℕ) → i ≡ 64 → Filled f i list → Ok list ≡ all_or_first f (first_that (lacks f) 64)
  filled_all i list last h =
      ap Ok (fill_by_all (λ k. number_of (f k)) list 64 0 h.0 (λ k l. h.2 k (omega arith)))
      ∙ sym (ap (all_or_first f) (ap (first_that (lacks f)) (sym last) ∙ h.1))

same_compares : IsBytesEq same
unfolding same
same_compares = record { empty = refl; shorter = λ y ys. refl; longer = λ x xs. refl; heads = λ x y xs ys. refl }

pub same_decides : (xs ys : List ℕ) → Decides (same xs ys) (xs ≡ ys)
same_decides = compares_Decides same same_compares
