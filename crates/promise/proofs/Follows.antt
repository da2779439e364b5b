-- The mark of a core follows the events: what a change and a marking do to it is what the event does to a flag.
use Rattle.std.proofs.Common.{◌≡◌, ℕ, ◌<◌, Bool, true, false, cond, ◌||◌, eqb, ◌⊎◌, length, set, sym, refl, ap, ◌∙◌, inl, inr, ⊎_elim}
use Rattle.promise.proofs.Flags.{effect}
use Rattle.promise.proofs.Marking.{loosened_other, loosened_own, mark_at, set_other, set_own, standing_stands}
use Rattle.promise.proofs.OneTest.{MarkedBy}
use Rattle.promise.specs.History.{changed}
use Rattle.promise.specs.History.{marked as marked-event}
use Rattle.sheet.specs.Marks.{loosened, marked, narrowed, standing, stands}
use Rattle.sheet.specs.State.{State}
use Rattle.sheet.specs.declared.marks.Mark.TheVariants.{Loose}
use Rattle.sheet.specs.declared.marks.Mark.{Mark}
use Rattle.std.proofs.lemmas.Bool.{cases_eq, cond-false, cond-true, eq-eqb, ne_eqb, or_right}

module _ (w : Bool) (k : ℕ) where
  -- whether core k is marked standing
  abbrev pub up : State → Bool
  up s = marked s.marks k

  narrowed_stands : (t : Mark) → (t ≡ Loose) ⊎ (t ≡ standing w) → (x : Bool) → w ≡ x → stands (narrowed t) ≡ cond x false (stands t)
  narrowed_stands t (inl e) true f = ap (λ z. stands (narrowed z)) e
  narrowed_stands t (inl e) false f = ap (λ z. stands (narrowed z)) e ∙ sym (ap stands e)
  narrowed_stands t (inr e) true f = ap (λ z. stands (narrowed z)) (e ∙ ap standing f)
  narrowed_stands t (inr e) false f = ap (λ z. stands (narrowed z)) (e ∙ ap standing f) ∙ sym (ap stands (e ∙ ap standing f))

  or_none : (a b x : Bool) → b ≡ false → cond (a || b) false x ≡ cond a false x
  or_none true b x e = refl
  or_none false b x e = cond-false b false x e

  pub loosened_up : (s : State) (c : ℕ) → MarkedBy w s → stands (mark_at (loosened s.marks c) k) ≡ effect w k (changed c) (up s)
  loosened_up s c h =
      ⊎_elim
      (λ e. ap stands (loosened_own s.marks c k e) ∙ sym (cond-true (w || eqb c k) false (up s) (or_right w (eqb c k) (eq-eqb c k (sym e)))))
      (λ ne. ap stands (loosened_other s.marks c k ne) ∙ narrowed_stands (mark_at s.marks k) (h.kind k) w refl ∙ sym (or_none w (eqb c k) (up s) (ne_eqb c k (λ e. ne (sym e)))))
      (cases_eq k c)

  pub marked_up : (s : State) (c : ℕ) → c < length s.marks → stands (mark_at (set s.marks c (standing w)) k) ≡ effect w k (marked-event c) (up s)
  marked_up s c l =
      ⊎_elim
      (λ e. ap stands (set_own s.marks c k (standing w) l e) ∙ standing_stands w ∙ sym (cond-true (eqb c k) true (up s) (eq-eqb c k (sym e))))
      (λ ne. ap stands (set_other s.marks c k (standing w) ne) ∙ sym (cond-false (eqb c k) true (up s) (ne_eqb c k (λ e. ne (sym e)))))
      (cases_eq k c)
