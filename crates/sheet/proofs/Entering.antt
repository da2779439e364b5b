-- What a load entered are the first records of the file, as many as it told. Of its steps, those that enter a record
-- count it; so the records counted are the first of those that all steps would enter, and these are the records of the
-- file. A load that came to the end without a refusal took every step: each block passed, and each record was entered.
use Rattle.std.proofs.Common.{◌≡◌, ℕ, zero, suc, ◌+◌, ◌-◌, ◌/◌, ◌<◌, ◌≤◌, List, [], ◌∷◌, ◌++◌, length, take, Some, None, Ok, Err, Option, Result, sym, refl, ap, ◌∙◌, subst, ⊎_elim, arith}
use Rattle.sheet.proofs.Filed.{all_records, records_in}
use Rattle.sheet.proofs.Taken.{stopped, taken_more, taken_none, taken_stop}
use Rattle.sheet.specs.Editing.{entered, entry_of}
use Rattle.sheet.specs.Loading.{Enters, Loaded, Loads, Step, Whole, block_steps, check, count_told, enter, filed, loaded, on_refusal, step_refusal, stepped, steps, stop, taken}
use Rattle.sheet.specs.State.{State}
use Rattle.sheet.specs.declared.refused.Stopped.{Stopped}
use Rattle.std.proofs.lemmas.Bool.{cases_lt}
use Rattle.table.specs.declared.board.Board.{Board}
use Rattle.table.specs.declared.refusal.Refusal.{Refusal}
use Rattle.tablefile.specs.Parts.{laid}
use Rattle.tablefile.specs.Reading.{block_at}
use Rattle.tablefile.specs.Refusing.{block_refusal, length_refusal}
use Rattle.tablefile.specs.declared.records.Record.{Record}

take_none : (n : ℕ) (rs : List Record) → take (n - n) rs ≡ []
take_none n rs = ap (λ i. take i rs) (let z : n - n ≡ 0 = omega arith in z)

take_one : (n c : ℕ) (r : Record) (rs : List Record) → n + 1 ≤ c → take (c - n) (r ∷ rs) ≡ r ∷ take (c - (n + 1)) rs
take_one n c r rs l = ap (λ i. take i (r ∷ rs)) (let z : c - n ≡ suc (c - (n + 1)) = omega arith in z)

module _ (bytes : List ℕ) where
  -- the count never falls

  abbrev Reaches : ℕ → Loaded → Type 0
  Reaches n l = n ≤ count_told l.told

  grows_step : (x : Step) (xs : List Step) (s : State) (n : ℕ) (o : Option Refusal) → step_refusal bytes s x ≡ o → ((t : State) (i : ℕ) → Reaches i (taken bytes t i xs)) → Reaches n (taken bytes s n (x ∷ xs))
  grows_step (check b) xs s n None e ih = subst (Reaches n) (sym (taken_more bytes s n (check b) xs e)) (ih s n)
  grows_step (enter b p) xs s n None e ih = subst (Reaches n) (sym (taken_more bytes s n (enter b p) xs e)) (omega (arith, ih (stepped bytes s (enter b p)) (n + 1)))
  grows_step (check b) xs s n (Some why) e ih = subst (Reaches n) (sym (taken_stop bytes s n (check b) xs why e)) (omega arith)
  grows_step (enter b p) xs s n (Some why) e ih = subst (Reaches n) (sym (taken_stop bytes s n (enter b p) xs why e)) (omega arith)

  grows : (xs : List Step) (s : State) (n : ℕ) → Reaches n (taken bytes s n xs)
  grows [] s n = subst (Reaches n) (sym (taken_none bytes s n)) (omega arith)
  grows (x ∷ xs) s n = grows_step x xs s n (step_refusal bytes s x) refl (grows xs)

  -- what was entered since n records were

  abbrev EnteredSince : State → ℕ → List Step → Loaded → Type 0
  EnteredSince s n xs l = Enters s (take (count_told l.told - n) (records_in bytes xs)) l.sheet

  nothing_since : (s : State) (n : ℕ) (rs : List Record) → Enters s (take (n - n) rs) s
  nothing_since s n rs = subst (λ z. Enters s z s) (sym (take_none n rs)) refl

  since_step : (x : Step) (xs : List Step) (s : State) (n : ℕ) (o : Option Refusal) → step_refusal bytes s x ≡ o → ((t : State) (i : ℕ) → EnteredSince t i xs (taken bytes t i xs)) → EnteredSince s n (x ∷ xs) (taken bytes s n (x ∷ xs))
  since_step (check b) xs s n None e ih = subst (EnteredSince s n (check b ∷ xs)) (sym (taken_more bytes s n (check b) xs e)) (ih s n)
  since_step (check b) xs s n (Some why) e ih = subst (EnteredSince s n (check b ∷ xs)) (sym (taken_stop bytes s n (check b) xs why e)) (nothing_since s n (records_in bytes xs))
  since_step (enter b p) xs s n (Some why) e ih = subst (EnteredSince s n (enter b p ∷ xs)) (sym (taken_stop bytes s n (enter b p) xs why e)) (nothing_since s n (records_in bytes (enter b p ∷ xs)))
  since_step (enter b p) xs s n None e ih =
      let r = filed bytes b p in
      let next = entered s (entry_of r) in
      let all = taken bytes next (n + 1) xs in
      subst (EnteredSince s n (enter b p ∷ xs)) (sym (taken_more bytes s n (enter b p) xs e))
      (subst (λ z. Enters s z all.sheet) (sym (take_one n (count_told all.told) r (records_in bytes xs) (grows xs next (n + 1)))) (e, ih next (n + 1)))

  entered_since : (xs : List Step) (s : State) (n : ℕ) → EnteredSince s n xs (taken bytes s n xs)
  entered_since [] s n = subst (EnteredSince s n []) (sym (taken_none bytes s n)) (nothing_since s n [])
  entered_since (x ∷ xs) s n = since_step x xs s n (step_refusal bytes s x) refl (entered_since xs)

  -- every step was taken

  module _ (board : Board) where
    abbrev pub Passing : List Step → Type 0
    Passing [] = Unit {0}
    Passing (check b ∷ xs) = (block_refusal board b (block_at bytes b) ≡ None) × Passing xs
    Passing (enter b p ∷ xs) = Passing xs

    abbrev TookAll : ℕ → List Step → Result ℕ Stopped → Type 0
    TookAll n xs (Ok c) = Passing xs × (c ≡ n + length (records_in bytes xs))
    TookAll n xs (Err why) = Unit {0}

    past_check : (b n : ℕ) (xs : List Step) (r : Result ℕ Stopped) → block_refusal board b (block_at bytes b) ≡ None → TookAll n xs r → TookAll n (check b ∷ xs) r
    past_check b n xs (Ok c) e h = ((e, h.0), h.1)
    past_check b n xs (Err why) e h = tt

    past_record : (b p n : ℕ) (xs : List Step) (r : Result ℕ Stopped) → TookAll (n + 1) xs r → TookAll n (enter b p ∷ xs) r
    past_record b p n xs (Ok c) h = (h.0, omega (arith, h.1))
    past_record b p n xs (Err why) h = tt

    abbrev Took : ℕ → List Step → Loaded → Type 0
    Took n xs l = TookAll n xs l.told

    took_step : (x : Step) (xs : List Step) (s : State) (n : ℕ) (o : Option Refusal) → s.board ≡ board → step_refusal bytes s x ≡ o → ((t : State) (i : ℕ) → t.board ≡ board → Took i xs (taken bytes t i xs)) → Took n (x ∷ xs) (taken bytes s n (x ∷ xs))
    took_step (check b) xs s n None same e ih =
        subst (Took n (check b ∷ xs)) (sym (taken_more bytes s n (check b) xs e))
        (past_check b n xs (taken bytes s n xs).told (ap (λ (z : Board). block_refusal z b (block_at bytes b)) (sym same) ∙ e) (ih s n same))
    took_step (enter b p) xs s n None same e ih =
        subst (Took n (enter b p ∷ xs)) (sym (taken_more bytes s n (enter b p) xs e))
        (past_record b p n xs (taken bytes (stepped bytes s (enter b p)) (n + 1) xs).told (ih (stepped bytes s (enter b p)) (n + 1) same))
    took_step (check b) xs s n (Some why) same e ih = subst (Took n (check b ∷ xs)) (sym (taken_stop bytes s n (check b) xs why e)) tt
    took_step (enter b p) xs s n (Some why) same e ih = subst (Took n (enter b p ∷ xs)) (sym (taken_stop bytes s n (enter b p) xs why e)) tt

    took : (xs : List Step) (s : State) (n : ℕ) → s.board ≡ board → Took n xs (taken bytes s n xs)
    took [] s n same = subst (Took n []) (sym (taken_none bytes s n)) (tt, omega arith)
    took (x ∷ xs) s n same = took_step x xs s n (step_refusal bytes s x) same refl (took xs)

    -- so each block passed

    passing_parts : (xs ys : List Step) → Passing (xs ++ ys) → Passing xs × Passing ys
    passing_parts [] ys h = (tt, h)
    passing_parts (check b ∷ xs) ys h = let p = passing_parts xs ys h.1 in ((h.0, p.0), p.1)
    passing_parts (enter b p ∷ xs) ys h = passing_parts xs ys h

    each_passed : (n k : ℕ) → k < n → Passing (laid n (block_steps bytes)) → block_refusal board k (block_at bytes k) ≡ None
    unfolding laid
    each_passed zero k l h = absurd (omega arith)
    each_passed (suc n) k l h =
        let parts = passing_parts (laid n (block_steps bytes)) (block_steps bytes n) h in
        ⊎_elim
        (λ less. each_passed n k less parts.0)
        (λ more. let z : k ≡ n = omega arith in ap (λ i. block_refusal board i (block_at bytes i)) z ∙ parts.1.0)
        (cases_lt k n)

  -- of the whole file

  whole : (s : State) (r : Result ℕ Stopped) → length_refusal (length bytes) ≡ None → TookAll s.board 0 (steps bytes) r → Whole s.board bytes r
  whole s (Ok n) e h = (e, λ k l. each_passed s.board (length bytes / 512) k l h.0, omega (arith, h.1, ap length (all_records bytes)))
  whole s (Err why) e h = tt

  from_length : (s : State) (o : Option Refusal) → length_refusal (length bytes) ≡ o → Loads s bytes (on_refusal o (λ why. stopped s (stop why 0 0 0)) (taken bytes s 0 (steps bytes))).told (on_refusal o (λ why. stopped s (stop why 0 0 0)) (taken bytes s 0 (steps bytes))).sheet
  from_length s (Some why) e = record { enters = refl; whole = tt }
  from_length s None e =
      let all = taken bytes s 0 (steps bytes) in
      let count = count_told (taken bytes s 0 (steps bytes)).told in
      record {
        enters =
            subst (λ rs. Enters s (take count rs) all.sheet) (all_records bytes)
            (subst (λ i. Enters s (take i (records_in bytes (steps bytes))) all.sheet) (let z : count_told (taken bytes s 0 (steps bytes)).told - 0 ≡ count_told (taken bytes s 0 (steps bytes)).told = omega arith in z) (entered_since (steps bytes) s 0));
        whole = whole s all.told e (took s.board (steps bytes) s 0 refl);
      }

  -- the theorem of a load
  pub load_loads : (s : State) (l : Loaded) → l ≡ loaded s bytes → Loads s bytes l.told l.sheet
  load_loads s l e = subst (λ (z : Loaded). Loads s bytes z.told z.sheet) (sym e) (from_length s (length_refusal (length bytes)) refl)
