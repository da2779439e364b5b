-- What the answers of calls tell, as numbers: 0 for an accepted call or else the number of its refusal, and then the rest.
use Rattle.std.specs.Prelude.{ℕ, Bool, true, false, ◌&&◌, List, [], ◌∷◌, Some, None, Ok, Err, Option, Result}
use Rattle.bounds.specs.Rounds.{same}
use Rattle.promise.specs.declared.call.Answer.TheVariants.{Amended, Entered, Judged, Loaded, Ordered, Withdrawn}
use Rattle.promise.specs.declared.call.Answer.{Answer}
use Rattle.sheet.specs.declared.refused.NotOrdered.TheVariants as order
use Rattle.sheet.specs.declared.refused.NotOrdered.{NotOrdered}
use Rattle.sheet.specs.declared.refused.NotPassing.TheVariants as judge
use Rattle.sheet.specs.declared.refused.NotPassing.{NotPassing}
use Rattle.sheet.specs.declared.refused.Stopped.{Stopped}
use Rattle.table.specs.Refusals.{number_of}
use Rattle.table.specs.declared.refusal.Refusal.{Refusal}

-- an entry, a withdrawal or an amendment
abbrev pub by_edit : Result (Unit {0}) Refusal → List ℕ
by_edit (Ok done) = 0 ∷ []
by_edit (Err why) = number_of why ∷ []

-- a load: the records entered; or the block, the record and the records entered before
abbrev pub by_load : Result ℕ Stopped → List ℕ
by_load (Ok n) = 0 ∷ n ∷ []
by_load (Err stop) = number_of stop.cause ∷ stop.block ∷ stop.«record» ∷ stop.entered ∷ []

-- a judging: the task without a bound
abbrev pub by_judge : Result (Unit {0}) NotPassing → List ℕ
by_judge (Ok done) = 0 ∷ []
by_judge (Err judge.CoreLacking) = 10 ∷ []
by_judge (Err (judge.NoBound i)) = 13 ∷ i ∷ []

-- an ordering: the trials; or the trials and the tasks unplaced
abbrev pub by_order : Result ℕ NotOrdered → List ℕ
by_order (Ok trials) = 0 ∷ trials ∷ []
by_order (Err order.CoreLacking) = 10 ∷ []
by_order (Err (order.NoOrder none)) = 12 ∷ none.trials ∷ none.unplaced ∷ []

-- a reading of a bound
abbrev pub by_bound : Result ℕ Refusal → List ℕ
by_bound (Ok b) = 0 ∷ b ∷ []
by_bound (Err why) = number_of why ∷ []

-- nothing where there is no answer
abbrev pub told_by : Option Answer → List ℕ
told_by None = []
told_by (Some (Entered r)) = by_edit r
told_by (Some (Loaded r)) = by_load r
told_by (Some (Withdrawn r)) = by_edit r
told_by (Some (Amended r)) = by_edit r
told_by (Some (Judged r)) = by_judge r
told_by (Some (Ordered r)) = by_order r

-- each answer tells what a line has for it
abbrev pub all_told : List (Option Answer) → List (List ℕ) → Bool
all_told [] [] = true
all_told [] (ns ∷ nss) = false
all_told (a ∷ rest) [] = false
all_told (a ∷ rest) (ns ∷ nss) = same (told_by a) ns && all_told rest nss
