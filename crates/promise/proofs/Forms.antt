-- Rows stay well-formed, as many as they were, and the same from place 64 on, whatever calls are made.
use Rattle.std.proofs.Common.{◌≡◌, ℕ, ◌<◌, Bool, true, false, List, length, drop, set, sym, refl, ◌∙◌}
use Rattle.ordering.proofs.Lawful.{decided}
use Rattle.ordering.specs.Search.{ordered}
use Rattle.ordering.specs.Writing.{written}
use Rattle.promise.proofs.Accepted.{amend_tells, entry_tells, withdraw_tells}
use Rattle.promise.proofs.Kept.{Kept, all_kept}
use Rattle.sheet.proofs.Opened.{fresh_formed, fresh_long, fresh_rest}
use Rattle.promise.proofs.Sounds.{ranks_first}
use Rattle.promise.proofs.WellWritten.{free_rank, ranked_formed, set_formed}
use Rattle.promise.specs.Calls.{after_all}
use Rattle.promise.specs.declared.call.Call.{Call}
use Rattle.sheet.proofs.Tasked.{task_used, used_on}
use Rattle.sheet.specs.Editing.{changed, row_of, with_figures}
use Rattle.sheet.specs.Formed.{LawfulRow, WellFormed}
use Rattle.sheet.specs.State.{State, fresh}
use Rattle.std.proofs.lemmas.List.{drop-set-lt, length-set}
use Rattle.std.proofs.lemmas.Bool.{both_ways}
use Rattle.table.proofs.Places.{on_core_task, task_below}
use Rattle.table.specs.Rows.{empty_row, row_at}
use Rattle.table.specs.Tests.{Laws, Meaning}
use Rattle.table.specs.declared.board.Board.{Board}
use Rattle.table.specs.declared.row.Row.{Row}

pub record Formed (board : Board) (start : List Row) (s : State) : Type 0 where
  pub same : s.board ≡ board
  pub well : WellFormed s.board s.rows
  pub long : length s.rows ≡ length start
  pub rest : drop 64 s.rows ≡ drop 64 start

module _ (board : Board) (start : List Row) where
  formed_first : Formed board start (fresh board start)
  formed_first = record { same = refl; well = fresh_formed board start; long = fresh_long board start; rest = fresh_rest board start }

  row_written : (s : State) (n c : ℕ) (row : Row) → n < 64 → WellFormed s.board (set s.rows n row) → Formed board start s → Formed board start (changed s n row c)
  row_written s n c row near w h = record {
    same = h.same;
    well = w;
    long = length-set s.rows n row ∙ h.long;
    rest = drop-set-lt 64 s.rows n row near ∙ h.rest;
  }

  module _ (m : Meaning) (w : Bool) (laws : Laws w m) where
    keeps : Kept m w (Formed board start)
    keeps = record {
      entering = λ s e fine accepted h.
          let tells = entry_tells s e fine accepted in
          let free = free_rank s.rows e.core e.rank tells.rank in
          row_written s e.number e.core (row_of e) tells.place.near
          (set_formed s.board s.rows e.number (row_of e) tells.place.inside h.well
          (λ _. record { core_below = tells.core; rank_from = free.0; rank_to = free.1; limits = tells.figures })
          (λ _ j l ne u c r. free.2 j (used_on s.board s.rows e.core j h.well l u c) r)
          (λ u. absurd (both_ways true u refl)))
          h;
      withdrawing = λ s n accepted h.
          let tells = withdraw_tells s n accepted in
          row_written s n (row_at s.rows n).core empty_row tells.place.near
          (set_formed s.board s.rows n empty_row tells.place.inside h.well
          (λ u. absurd (both_ways false refl u))
          (λ u j l ne v c r. both_ways false refl u)
          (λ _. refl))
          h;
      amending = λ s n f accepted h.
          let both = amend_tells s n f accepted in
          let place = both.0.place in
          let used : (row_at s.rows n).used ≡ true = task_used s.rows n both.0.task in
          let old : LawfulRow s.board (row_at s.rows n) = h.well.lawful n place.near used in
          row_written s n (row_at s.rows n).core (with_figures (row_at s.rows n) f) place.near
          (set_formed s.board s.rows n (with_figures (row_at s.rows n) f) place.inside h.well
          (λ _. record { core_below = old.core_below; rank_from = old.rank_from; rank_to = old.rank_to; limits = both.1 })
          (λ _ j l ne v c r. ne (h.well.apart j n l place.near v used c r))
          (λ u. absurd (both_ways (row_at s.rows n).used u used)))
          h;
      judging = λ s core accepted h. record { same = h.same; well = h.well; long = h.long; rest = h.rest };
      ordering = λ s core xs t inside found h.
          let first = ranks_first m w laws s core xs t found in
          let o = (decided w m laws s.board s.rows core (ordered xs t) (sym found)).order in
          record {
            same = h.same;
            well = ranked_formed s.board s.rows core xs (written s.rows xs) first.writes o h.well;
            long = first.writes.same_length ∙ h.long;
            rest = first.writes.rest 64 (λ j e. task_below s.rows j (on_core_task s.rows core j (sym (o.each j) ∙ e))) ∙ h.rest;
          };
    }

    pub always_formed : (cs : List Call) → Formed board start (after_all m w (fresh board start) cs)
    always_formed cs = all_kept m w (Formed board start) keeps cs (fresh board start) formed_first
