-- What the scan `solution` finds. By induction over the numbers that are left to look at: a hit at the first of
-- them is the least solution, and after a miss the rest has the same answer. So the answer is none exactly when no
-- number solves the recurrence, and otherwise the least that does; and since a least solution is one number, any
-- other way of finding it gives the same answer.
use Rattle.std.proofs.Common.{◌≡◌, ℕ, zero, suc, ◌+◌, ◌<◌, ◌≤◌, cond, eqb, Some, None, Option, sym, refl, ap, ◌∙◌, subst, inl, inr, arith, MatchOption}
use Rattle.least.specs.Least.{AnswersLeast, Least, Unsolved, first_from, solution}
use Rattle.std.proofs.lemmas.Bool.{cases_eq, cond-false, cond-true, eq-eqb, ne_eqb}

cases_map : {X : Type 0} {P P' : Type 0} {Q Q' : X → Type 0} (o : Option X) → (P → P') → ((x : X) → Q x → Q' x) → MatchOption o P Q → MatchOption o P' Q'
cases_map None p q h = p h
cases_map (Some x) p q h = q x h

module _ (rule : ℕ → ℕ) where
  hit : (a n : ℕ) → rule a ≡ a → first_from rule a (suc n) ≡ Some a
  unfolding first_from
  hit a n e = cond-true _ _ _ (eq-eqb (rule a) a e)

  miss : (a n : ℕ) → (rule a ≡ a → ⊥) → first_from rule a (suc n) ≡ first_from rule (suc a) n
  unfolding first_from
  miss a n ne = cond-false _ _ _ (ne_eqb (rule a) a ne)

  -- none of the n numbers from a on is a solution
  abbrev NoneFrom : ℕ → ℕ → Type 0
  NoneFrom a n = (s : ℕ) → a ≤ s → s < a + n → rule s ≡ s → ⊥

  -- t is the first of them
  abbrev FirstFrom : ℕ → ℕ → ℕ → Type 0
  FirstFrom a n t = (a ≤ t) × (t < a + n) × (rule t ≡ t) × ((s : ℕ) → a ≤ s → rule s ≡ s → t ≤ s)

  found : (a n : ℕ) → MatchOption (first_from rule a n) (NoneFrom a n) (FirstFrom a n)
  unfolding first_from
  found a zero = λ s low high. absurd (omega arith)
  found a (suc n) =
      elim (cases_eq (rule a) a) [
        | inl e ↦
            subst (λ o. MatchOption o (NoneFrom a (suc n)) (FirstFrom a (suc n))) (sym (hit a n e))
            (omega arith, omega arith, e, λ s low _. low)
        | inr ne ↦
            subst (λ o. MatchOption o (NoneFrom a (suc n)) (FirstFrom a (suc n))) (sym (miss a n ne))
            (cases_map (first_from rule (suc a) n)
            (λ none s low high e. elim (cases_eq a s) [ inl same ↦ ne (subst (λ x. rule x ≡ x) (sym same) e) | inr other ↦ none s (omega arith) (omega arith) e ])
            (λ t h. (
              let k = h.0 in omega arith,
              let k = h.1 in omega arith,
              h.2,
              λ s low e. elim (cases_eq a s) [ inl same ↦ absurd (ne (subst (λ x. rule x ≡ x) (sym same) e)) | inr other ↦ h.3 s (omega arith) e ],
            ))
            (found (suc a) n))
      ]

  -- the theorem: `solution` is the least one, and none exactly when there is none
  pub solution_least : (limit : ℕ) → AnswersLeast rule limit (solution rule limit)
  unfolding solution
  solution_least limit =
      cases_map (first_from rule 1 limit)
      (λ none s low high. none s low (omega arith))
      (λ t h. record { low = h.0; high = (let k = h.1 in omega arith); solves = h.2; first = h.3 })
      (found 1 limit)

  -- a least solution is one number: two that are least are the same
  only : (limit : ℕ) (o : Option ℕ) (t : ℕ) → AnswersLeast rule limit o → Least rule limit t → o ≡ Some t
  only limit None t none h = absurd (none t h.low h.high h.solves)
  only limit (Some s) t g h =
      ap Some (let a = g.first t h.low h.solves in let b = h.first s g.low g.solves in omega arith)

  nothing : (limit : ℕ) (o : Option ℕ) → AnswersLeast rule limit o → Unsolved rule limit → o ≡ None
  nothing limit None none h = refl
  nothing limit (Some s) g h = absurd (h s g.low g.high g.solves)

  pub solution_some : (limit t : ℕ) → Least rule limit t → solution rule limit ≡ Some t
  solution_some limit t h = only limit (solution rule limit) t (solution_least limit) h

  pub solution_none : (limit : ℕ) → Unsolved rule limit → solution rule limit ≡ None
  solution_none limit h = nothing limit (solution rule limit) (solution_least limit) h

from_same : (f g : ℕ → ℕ) → ((t : ℕ) → f t ≡ g t) → (a n : ℕ) → first_from f a n ≡ first_from g a n
unfolding first_from
from_same f g e a zero = refl
from_same f g e a (suc n) = ap (λ x. cond (eqb x a) (Some a) (first_from f (suc a) n)) (e a) ∙ ap (λ o. cond (eqb (g a) a) (Some a) o) (from_same f g e (suc a) n)

-- equal rules have one solution
pub solution_same : (f g : ℕ → ℕ) → ((t : ℕ) → f t ≡ g t) → (limit : ℕ) → solution f limit ≡ solution g limit
unfolding solution
solution_same f g e limit = from_same f g e 1 limit
