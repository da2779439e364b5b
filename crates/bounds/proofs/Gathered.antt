-- The steps of gathering: a number that is picked is one load and one term more, any other adds neither.
use Rattle.std.proofs.Common.{◌≡◌, ℕ, ◌+◌, true, false, cond, List, [], ◌∷◌, ◌++◌, sym, ap, ◌∙◌, arith}
use Rattle.bounds.specs.Adding.{sum_more, sum_none}
use Rattle.bounds.specs.Gathering.{Form, Gathers, form}
use Rattle.bounds.specs.declared.load.Load.{Load}
use Rattle.std.proofs.lemmas.List.Sums.{sum_by_push}
use Rattle.std.proofs.lemmas.Bool.{cond-false, cond-true}
use Rattle.table.specs.Sets.{Set}

module _ (picks : Set) (forms : ℕ → Form) where
  pub gathers_none : Gathers picks forms 0 []
  gathers_none f = sym (sum_none _)

  pub gathers_yes : (n : ℕ) (loads : List Load) (x : Load) → picks n ≡ true → form x ≡ forms n → Gathers picks forms n loads → Gathers picks forms (n + 1) (loads ++ x ∷ [])
  gathers_yes n loads x e is h f =
      let picked : cond (picks n) (f (forms n)) 0 ≡ f (form x) = cond-true _ _ _ e ∙ ap f (sym is) in
      omega (arith, picked, sum_by_push (λ x. f (form x)) loads x, h f, sum_more n (λ j. cond (picks j) (f (forms j)) 0))

  pub gathers_no : (n : ℕ) (loads : List Load) → picks n ≡ false → Gathers picks forms n loads → Gathers picks forms (n + 1) loads
  gathers_no n loads e h f =
      let picked : cond (picks n) (f (forms n)) 0 ≡ 0 = cond-false _ _ _ e in
      omega (arith, picked, h f, sum_more n (λ j. cond (picks j) (f (forms j)) 0))
