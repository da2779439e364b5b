-- Steps of a load, taken one part after another. Taking two lists of steps is taking the first and then, unless that
-- stopped, the second from where it came to. So a loop over parts comes, turn by turn, to what the parts before came to,
-- and once it has stopped, further parts change nothing.
use Rattle.std.proofs.Common.{◌≡◌, ℕ, zero, suc, ◌+◌, ◌-◌, ◌≤◌, List, [], ◌∷◌, ◌++◌, Some, None, Ok, Err, Option, Result, refl, ap, ◌∙◌, arith}
use Rattle.sheet.specs.Editing.{entered, entry_of}
use Rattle.sheet.specs.Loading.{Loaded, Step, counted, enter, filed, on_refusal, one_record, record_refusal, step_refusal, stepped, stop, stopped_at, taken}
use Rattle.sheet.specs.State.{State}
use Rattle.sheet.specs.declared.refused.Stopped.{Stopped}
use Rattle.table.specs.declared.refusal.Refusal.{Refusal}
use Rattle.tablefile.proofs.Laid.{laid_more, laid_none}
use Rattle.tablefile.specs.Parts.{laid}

-- still going, with so many records entered; or stopped
abbrev pub going : State → ℕ → Loaded
going s n = record { sheet = s; told = Ok n }

abbrev pub stopped : State → Stopped → Loaded
stopped s why = record { sheet = s; told = Err why }

module _ (bytes : List ℕ) where
  -- more steps, unless it stopped
  abbrev go_on : State → Result ℕ Stopped → List Step → Loaded
  go_on s (Ok n) xs = taken bytes s n xs
  go_on s (Err why) xs = stopped s why

  abbrev onward : Loaded → List Step → Loaded
  onward l xs = go_on l.sheet l.told xs

  pub taken_none : (s : State) (n : ℕ) → taken bytes s n [] ≡ going s n
  unfolding taken
  taken_none s n = refl

  pub taken_more : (s : State) (n : ℕ) (x : Step) (xs : List Step) → step_refusal bytes s x ≡ None → taken bytes s n (x ∷ xs) ≡ taken bytes (stepped bytes s x) (counted n x) xs
  unfolding taken
  taken_more s n x xs e = ap (λ o. on_refusal o (λ why. stopped s (stopped_at x why n)) (taken bytes (stepped bytes s x) (counted n x) xs)) e

  pub taken_stop : (s : State) (n : ℕ) (x : Step) (xs : List Step) (why : Refusal) → step_refusal bytes s x ≡ Some why → taken bytes s n (x ∷ xs) ≡ stopped s (stopped_at x why n)
  unfolding taken
  taken_stop s n x xs why e = ap (λ o. on_refusal o (λ why. stopped s (stopped_at x why n)) (taken bytes (stepped bytes s x) (counted n x) xs)) e

  -- a record is entered, or stops the load
  pub record_goes : (s : State) (n k p : ℕ) → record_refusal s (filed bytes k p) ≡ None → taken bytes s n (one_record k p) ≡ going (entered s (entry_of (filed bytes k p))) (n + 1)
  record_goes s n k p e = taken_more s n (enter k p) [] e ∙ taken_none (entered s (entry_of (filed bytes k p))) (n + 1)

  pub record_stops : (s : State) (n k p : ℕ) (why : Refusal) → record_refusal s (filed bytes k p) ≡ Some why → taken bytes s n (one_record k p) ≡ stopped s (stop why k p n)
  record_stops s n k p why e = taken_stop s n (enter k p) [] why e

  along : (o : Option Refusal) (s : State) (tell : Refusal → Stopped) (l m : Loaded) (ys : List Step) → m ≡ onward l ys → on_refusal o (λ why. stopped s (tell why)) m ≡ onward (on_refusal o (λ why. stopped s (tell why)) l) ys
  along None s tell l m ys e = e
  along (Some why) s tell l m ys e = refl

  taken_both : (xs ys : List Step) (s : State) (n : ℕ) → taken bytes s n (xs ++ ys) ≡ onward (taken bytes s n xs) ys
  unfolding taken
  taken_both [] ys s n = refl
  taken_both (x ∷ xs) ys s n =
      along (step_refusal bytes s x) s (λ why. stopped_at x why n) (taken bytes (stepped bytes s x) (counted n x) xs) (taken bytes (stepped bytes s x) (counted n x) (xs ++ ys)) ys (taken_both xs ys (stepped bytes s x) (counted n x))

  -- a loop over parts

  module _ (s : State) (n : ℕ) (f : ℕ → List Step) where
    pub laid_start : taken bytes s n (laid 0 f) ≡ going s n
    laid_start = ap (taken bytes s n) (laid_none f) ∙ taken_none s n

    part_more : (k : ℕ) → taken bytes s n (laid (k + 1) f) ≡ onward (taken bytes s n (laid k f)) (f k)
    part_more k = ap (taken bytes s n) (laid_more k f) ∙ taken_both (laid k f) (f k) s n

    pub laid_step : (k : ℕ) (t : State) (m : ℕ) (l : Loaded) → taken bytes s n (laid k f) ≡ going t m → taken bytes t m (f k) ≡ l → taken bytes s n (laid (k + 1) f) ≡ l
    laid_step k t m l e h = part_more k ∙ ap (λ z. onward z (f k)) e ∙ h

    stays : (d k : ℕ) (t : State) (why : Stopped) → taken bytes s n (laid k f) ≡ stopped t why → taken bytes s n (laid (d + k) f) ≡ stopped t why
    stays zero k t why e = ap (λ j. taken bytes s n (laid j f)) (let z : 0 + k ≡ k = omega arith in z) ∙ e
    stays (suc d) k t why e =
        ap (λ j. taken bytes s n (laid j f)) (let z : suc d + k ≡ (d + k) + 1 = omega arith in z)
        ∙ part_more (d + k)
        ∙ ap (λ z. onward z (f (d + k))) (stays d k t why e)

    pub laid_stopped : (k m : ℕ) (t : State) (why : Stopped) → k ≤ m → taken bytes s n (laid k f) ≡ stopped t why → taken bytes s n (laid m f) ≡ stopped t why
    laid_stopped k m t why l e = ap (λ j. taken bytes s n (laid j f)) (let z : m ≡ (m - k) + k = omega arith in z) ∙ stays (m - k) k t why e
