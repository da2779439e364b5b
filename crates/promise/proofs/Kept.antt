-- What every accepted change and every accepted marking keeps, every list of calls keeps: a call that is refused leaves
-- the sheet as it was, a load is a row of entries, and every other call is one of the five.
use Rattle.std.proofs.Common.{◌≡◌, ℕ, Bool, true, false, cond, eqb, ltb, List, [], ◌∷◌, take, Some, None, Option, sym, refl, subst}
use Rattle.ordering.specs.Search.{Outcome, ordered, refused}
use Rattle.ordering.specs.Writing.{written}
use Rattle.promise.specs.Calls.{after, after_all}
use Rattle.promise.specs.declared.call.Call.TheVariants.{Amend, Enter, Judge, Load, Order, Withdraw}
use Rattle.promise.specs.declared.call.Call.{Call}
use Rattle.sheet.proofs.Entering.{load_loads}
use Rattle.sheet.specs.Editing.{amend_refusal, amended, entered, entry_of, entry_refusal, withdraw_refusal, withdrawn}
use Rattle.sheet.specs.Loading.{Enters, after_load, count_told, load_answer, loaded}
use Rattle.sheet.specs.Passing.{judge_refusal, judged, marked_by, order_set, searched}
use Rattle.sheet.specs.State.{State, unless}
use Rattle.sheet.specs.declared.entry.Entry.{Entry}
use Rattle.table.specs.Tests.{Meaning}
use Rattle.table.specs.declared.row.Figures.{Figures}
use Rattle.tablefile.specs.Reading.{records_of}
use Rattle.tablefile.specs.declared.records.Record.{Record}

pub record Kept (m : Meaning) (w : Bool) (P : State → Type 0) : Type 0 where
  pub entering : (s : State) (e : Entry) (fine : Bool) → entry_refusal s e fine ≡ None → P s → P (entered s e)
  pub withdrawing : (s : State) (n : ℕ) → withdraw_refusal s n ≡ None → P s → P (withdrawn s n)
  pub amending : (s : State) (n : ℕ) (f : Figures) → amend_refusal s n f ≡ None → P s → P (amended s n f)
  pub judging : (s : State) (core : ℕ) → judge_refusal m s core ≡ None → P s → P (judged w s core)
  pub ordering : (s : State) (core : ℕ) (xs : List ℕ) (t : ℕ) → ltb core s.board.cores ≡ true → searched m s core ≡ ordered xs t → P s → P (marked_by w s (written s.rows xs) core)

module _ (m : Meaning) (w : Bool) (P : State → Type 0) (kept : Kept m w P) where
  unless_kept : {R : Type 0} (o : Option R) (changed s : State) → (o ≡ None → P changed) → P s → P (unless o changed s)
  unless_kept None changed s f h = f refl
  unless_kept (Some why) changed s f h = h

  -- a load

  entered_kept : (rs : List Record) (s t : State) → Enters s rs t → P s → P t
  entered_kept [] s t e h = subst P (sym e) h
  entered_kept (r ∷ rs) s t e h = entered_kept rs (entered s (entry_of r)) t e.1 (kept.entering s (entry_of r) (eqb r.fourth 0) e.0 h)

  load_kept : (s : State) (bytes : List ℕ) → P s → P (after_load s bytes)
  load_kept s bytes h = entered_kept (take (count_told (load_answer s bytes)) (records_of bytes)) s (after_load s bytes) (load_loads bytes s (loaded s bytes) refl).enters h

  -- an ordering

  order_kept : (s : State) (core : ℕ) (a : Bool) (o : Outcome) → ltb core s.board.cores ≡ a → searched m s core ≡ o → P s → P (cond a (order_set w s core o) s)
  order_kept s core true (ordered xs t) e f h = kept.ordering s core xs t e f h
  order_kept s core true (refused t unplaced) e f h = h
  order_kept s core false o e f h = h

  pub call_kept : (c : Call) (s : State) → P s → P (after m w s c)
  call_kept (Enter e) s h = unless_kept (entry_refusal s e true) (entered s e) s (λ a. kept.entering s e true a h) h
  call_kept (Load bytes) s h = load_kept s bytes.now h
  call_kept (Withdraw n) s h = unless_kept (withdraw_refusal s n) (withdrawn s n) s (λ a. kept.withdrawing s n a h) h
  call_kept (Amend n f) s h = unless_kept (amend_refusal s n f) (amended s n f) s (λ a. kept.amending s n f a h) h
  call_kept (Judge core) s h = unless_kept (judge_refusal m s core) (judged w s core) s (λ a. kept.judging s core a h) h
  call_kept (Order core) s h = order_kept s core (ltb core s.board.cores) (searched m s core) refl refl h

  pub all_kept : (cs : List Call) (s : State) → P s → P (after_all m w s cs)
  all_kept [] s h = h
  all_kept (c ∷ cs) s h = all_kept cs (after m w s c) (call_kept c s h)
