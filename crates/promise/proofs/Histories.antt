-- A core is marked standing exactly as the accepted calls tell: a call changes the mark of a core as its events change a
-- flag, so the mark after a list of calls is what the events of all of them make of a flag that begins down.
use Rattle.std.proofs.Common.{◌≡◌, ℕ, ◌<◌, Bool, true, false, cond, ltb, ◌↔◌, List, [], ◌∷◌, map, length, take, Some, None, Err, Option, sym, refl, ap, ◌∙◌}
use Rattle.ordering.specs.Search.{Outcome, ordered, refused}
use Rattle.promise.proofs.Accepted.{judge_tells}
use Rattle.promise.proofs.Flags.{effect, flag_exactly, flagged, flagged_both}
use Rattle.promise.proofs.Follows.{loosened_up, marked_up, up}
use Rattle.promise.proofs.Kept.{call_kept}
use Rattle.promise.proofs.Marking.{all_loose}
use Rattle.promise.proofs.OneTest.{MarkedBy, core_marked, fresh_kind, kind_kept, loosened_kind}
use Rattle.promise.specs.Calls.{after, after_all}
use Rattle.promise.specs.History.{Event, MarkedSince, changed, entry_event, events, events_of, if_accepted}
use Rattle.promise.specs.History.{marked as marked-event}
use Rattle.promise.specs.declared.call.Call.TheVariants.{Amend, Enter, Judge, Load, Order, Withdraw}
use Rattle.promise.specs.declared.call.Call.{Call}
use Rattle.sheet.proofs.Entering.{load_loads}
use Rattle.sheet.specs.Editing.{amend_refusal, amended, entered, entry_of, entry_refusal, row_of, withdraw_refusal, withdrawn}
use Rattle.sheet.specs.Loading.{Enters, after_load, count_told, load_answer, loaded}
use Rattle.sheet.specs.Marks.{stands}
use Rattle.sheet.specs.Passing.{judge_refusal, judged, order_set, order_told, searched}
use Rattle.sheet.specs.State.{State, fresh, unless}
use Rattle.sheet.specs.declared.refused.NotOrdered.TheVariants.{CoreLacking}
use Rattle.std.proofs.lemmas.Bool.{ltb-true}
use Rattle.table.specs.Refusals.{done_unless}
use Rattle.table.specs.Rows.{row_at}
use Rattle.table.specs.Tests.{Meaning}
use Rattle.table.specs.declared.board.Board.{Board}
use Rattle.table.specs.declared.row.Row.{Row}
use Rattle.tablefile.specs.Reading.{records_of}
use Rattle.tablefile.specs.declared.records.Record.{Record}

module _ (w : Bool) (k : ℕ) where
  -- a call that is done unless it is refused
  done_law : {R : Type 0} (o : Option R) (t s : State) (event : Event) → (o ≡ None → up w k t ≡ effect w k event (up w k s)) → up w k (unless o t s) ≡ flagged w k (up w k s) (if_accepted (done_unless o) event)
  done_law None t s event f = f refl
  done_law (Some why) t s event f = refl

  -- the records that a load entered
  entered_law : (rs : List Record) (s t : State) → Enters s rs t → MarkedBy w s → up w k t ≡ flagged w k (up w k s) (map entry_event rs)
  entered_law [] s t e h = ap (up w k) e
  entered_law (r ∷ rs) s t e h =
      let next = entered s (entry_of r) in
      entered_law rs next t e.1 (loosened_kind w s r.number (row_of (entry_of r)) r.row.core h)
      ∙ ap (λ b. flagged w k b (map entry_event rs)) (loosened_up w k s r.row.core h)

  -- any call

  module _ (m : Meaning) where
    order_law : (s : State) (core : ℕ) (a : Bool) (o : Outcome) → (a ≡ true → core < length s.marks) → up w k (cond a (order_set w s core o) s) ≡ flagged w k (up w k s) (if_accepted (cond a (order_told o) (Err CoreLacking)) (marked-event core))
    order_law s core true (ordered xs t) l = marked_up w k s core (l refl)
    order_law s core true (refused t unplaced) l = refl
    order_law s core false o l = refl

    call_law : (c : Call) (s : State) → MarkedBy w s → up w k (after m w s c) ≡ flagged w k (up w k s) (events_of m s c)
    call_law (Enter e) s h = done_law (entry_refusal s e true) (entered s e) s (changed e.core) (λ _. loosened_up w k s e.core h)
    call_law (Load bytes) s h = entered_law (take (count_told (load_answer s bytes.now)) (records_of bytes.now)) s (after_load s bytes.now) (load_loads bytes.now s (loaded s bytes.now) refl).enters h
    call_law (Withdraw n) s h = done_law (withdraw_refusal s n) (withdrawn s n) s (changed (row_at s.rows n).core) (λ _. loosened_up w k s (row_at s.rows n).core h)
    call_law (Amend n f) s h = done_law (amend_refusal s n f) (amended s n f) s (changed (row_at s.rows n).core) (λ _. loosened_up w k s (row_at s.rows n).core h)
    call_law (Judge core) s h = done_law (judge_refusal m s core) (judged w s core) s (marked-event core) (λ a. marked_up w k s core (core_marked w s core h (judge_tells m s core a).0))
    call_law (Order core) s h = order_law s core (ltb core s.board.cores) (searched m s core) (λ a. core_marked w s core h (ltb-true _ _ a))

    all_law : (cs : List Call) (s : State) → MarkedBy w s → up w k (after_all m w s cs) ≡ flagged w k (up w k s) (events m w s cs)
    all_law [] s h = refl
    all_law (c ∷ cs) s h =
        all_law cs (after m w s c) (call_kept m w (MarkedBy w) (kind_kept m w) c s h)
        ∙ ap (λ b. flagged w k b (events m w (after m w s c) cs)) (call_law c s h)
        ∙ sym (flagged_both w k (events_of m s c) (events m w (after m w s c) cs) (up w k s))

    pub told_by_events : (board : Board) (rows : List Row) (cs : List Call) → (up w k (after_all m w (fresh board rows) cs) ≡ true) ↔ MarkedSince w k (events m w (fresh board rows) cs)
    told_by_events board rows cs =
        let all = events m w (fresh board rows) cs in
        let is : up w k (after_all m w (fresh board rows) cs) ≡ flagged w k false (events m w (fresh board rows) cs) =
        all_law cs (fresh board rows) (fresh_kind w board rows) ∙ ap (λ b. flagged w k b (events m w (fresh board rows) cs)) (ap stands (all_loose 8 k)) in
        let exactly = flag_exactly w k all in
        (λ e. exactly.0 (sym is ∙ e), λ h. is ∙ exactly.1 h)
