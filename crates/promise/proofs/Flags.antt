-- A flag that some events raise and others lower is up at the end exactly when the last that raised it has none after it
-- that lowers it. Read from the front, the flag so far and the events to come decide.
use Rattle.std.proofs.Common.{◌≡◌, ℕ, Bool, true, false, cond, ◌||◌, eqb, ◌⊎◌, ◌↔◌, List, [], ◌∷◌, ◌++◌, sym, refl, ap, ◌∙◌, inl, inr, ⊎_elim}
use Rattle.promise.specs.History.{Event, MarkedSince, Untouched, changed, marked}
use Rattle.std.proofs.lemmas.Bool.{both_ways, cases_Bool, cond-false, cond-true, eq-eqb, eqb-true}

module _ (w : Bool) (k : ℕ) where
  -- whether the core stands after an event, if it stood before as b says
  abbrev pub effect : Event → Bool → Bool
  effect (changed j) b = cond (w || eqb j k) false b
  effect (marked j) b = cond (eqb j k) true b

  abbrev pub flagged : Bool → List Event → Bool
  flagged b [] = b
  flagged b (e ∷ es) = flagged (effect e b) es

  pub flagged_both : (xs ys : List Event) (b : Bool) → flagged b (xs ++ ys) ≡ flagged (flagged b xs) ys
  flagged_both [] ys b = refl
  flagged_both (x ∷ xs) ys b = flagged_both xs ys (effect x b)

  -- from the flag to the event

  abbrev Up : Bool → List Event → Type 0
  Up b es = ((b ≡ true) × Untouched w k es) ⊎ MarkedSince w k es

  sooner : (e : Event) (es : List Event) → MarkedSince w k es → MarkedSince w k (e ∷ es)
  sooner e es h = record { earlier = e ∷ h.earlier; later = h.later; split = ap (λ z. e ∷ z) h.split; untouched = h.untouched }

  after_change : (j : ℕ) (es : List Event) (b : Bool) → Up (cond (w || eqb j k) false b) es → Up b (changed j ∷ es)
  after_change j es b (inr h) = inr (sooner (changed j) es h)
  after_change j es b (inl (up, untouched)) =
      ⊎_elim
      (λ yes. absurd (both_ways false refl (sym (cond-true (w || eqb j k) false b yes) ∙ up)))
      (λ no. inl (sym (cond-false (w || eqb j k) false b no) ∙ up, (refl, no, untouched)))
      (cases_Bool (w || eqb j k))

  after_mark : (j : ℕ) (es : List Event) (b : Bool) → Up (cond (eqb j k) true b) es → Up b (marked j ∷ es)
  after_mark j es b (inr h) = inr (sooner (marked j) es h)
  after_mark j es b (inl (up, untouched)) =
      ⊎_elim
      (λ yes. inr (record { earlier = []; later = es; split = ap (λ i. marked i ∷ es) (eqb-true j k yes); untouched = untouched }))
      (λ no. inl (sym (cond-false (eqb j k) true b no) ∙ up, (no, refl, untouched)))
      (cases_Bool (eqb j k))

  up_by : (es : List Event) (b : Bool) → flagged b es ≡ true → Up b es
  up_by [] b h = inl (h, tt)
  up_by (changed j ∷ es) b h = after_change j es b (up_by es (cond (w || eqb j k) false b) h)
  up_by (marked j ∷ es) b h = after_mark j es b (up_by es (cond (eqb j k) true b) h)

  never_down : (es : List Event) → Up false es → MarkedSince w k es
  never_down es (inl (e, u)) = absurd (both_ways false refl e)
  never_down es (inr h) = h

  -- and back

  stays_up : (es : List Event) → Untouched w k es → flagged true es ≡ true
  stays_up [] u = refl
  stays_up (changed j ∷ es) (a, l, u) = ap (λ b. flagged (cond b false true) es) l ∙ stays_up es u
  stays_up (marked j ∷ es) (a, l, u) = ap (λ b. flagged (cond b true true) es) a ∙ stays_up es u

  raised : (b : Bool) (es : List Event) → MarkedSince w k es → flagged b es ≡ true
  raised b es h =
      ap (flagged b) h.split
      ∙ flagged_both h.earlier (marked k ∷ h.later) b
      ∙ ap (λ z. flagged (cond z true (flagged b h.earlier)) h.later) (eq-eqb k k refl)
      ∙ stays_up h.later h.untouched

  pub flag_exactly : (es : List Event) → (flagged false es ≡ true) ↔ MarkedSince w k es
  flag_exactly es = (λ up. never_down es (up_by es false up), λ h. raised false es h)
