-- A core that is marked standing is bounded, after every list of calls by one test. Two things are kept together: every
-- mark was given by that test, and on every core that is marked each task has a bound.
--
-- A change on a core makes it loose. Another core that still stands then stands by a test that is own-core: its tasks and
-- rows are the same, so by the law of own-core tests its bounds are too. A judging marks a core that was just found to be
-- bounded. An ordering writes ranks on its own core alone: there each task has a bound, and on every other core the ranks
-- are as they were, and a test is blind to the ranks that changed.
use Rattle.std.proofs.Common.{◌≡◌, ℕ, ◌<◌, Bool, true, false, ◌⊎◌, List, length, set, None, sym, refl, ap, ◌∙◌, subst, inl, inr, ⊎_elim}
use Rattle.ordering.proofs.Failing.{judged as judged-so}
use Rattle.ordering.proofs.Lawful.{decided}
use Rattle.ordering.proofs.Reranks.{orders, same_answers}
use Rattle.ordering.specs.Orders.{Answers}
use Rattle.ordering.specs.Present.{Bounded}
use Rattle.ordering.specs.Search.{ordered}
use Rattle.ordering.specs.Writing.{RanksFirst, written}
use Rattle.promise.proofs.Accepted.{amend_tells, entry_tells, judge_tells, withdraw_tells}
use Rattle.promise.proofs.Elsewhere.{SameOn, own_same, ranked_elsewhere, stay_bounded, written_elsewhere}
use Rattle.promise.proofs.Kept.{Kept, all_kept}
use Rattle.promise.proofs.OneTest.{MarkedBy, fresh_kind, loosened_kind, marked_kind}
use Rattle.promise.proofs.Marking.{all_loose, loosened_other, loosened_own, mark_at, set_other}
use Rattle.promise.specs.Calls.{after_all}
use Rattle.promise.specs.declared.call.Call.{Call}
use Rattle.sheet.specs.Editing.{changed, row_of, with_figures}
use Rattle.sheet.specs.Marks.{marked, narrowed, standing, stands}
use Rattle.sheet.specs.Passing.{asked, marked_by, searched}
use Rattle.sheet.specs.State.{State, fresh}
use Rattle.sheet.specs.declared.marks.Mark.TheVariants.{Loose}
use Rattle.sheet.specs.declared.marks.Mark.{Mark}
use Rattle.std.proofs.lemmas.List.{get_or-set_same}
use Rattle.std.proofs.lemmas.Bool.{both_ways, cases_eq, ltb-true}
use Rattle.table.proofs.Places.{no_task_from, off_core, other_core}
use Rattle.table.specs.Rows.{empty_row, holds_task, past, row_at}
use Rattle.table.specs.Tests.{Laws, Meaning}
use Rattle.table.specs.declared.board.Board.{Board}
use Rattle.table.specs.declared.row.Row.{Row}

-- a core that stands after a change on another stood by an own-core test
still_stands : (w : Bool) (t : Mark) → (t ≡ Loose) ⊎ (t ≡ standing w) → stands (narrowed t) ≡ true → (w ≡ false) × (stands t ≡ true)
still_stands w t (inl e) h = absurd (both_ways false refl (sym (ap (λ z. stands (narrowed z)) e) ∙ h))
still_stands true t (inr e) h = absurd (both_ways false refl (sym (ap (λ z. stands (narrowed z)) e) ∙ h))
still_stands false t (inr e) h = (refl, ap stands e)

module _ (m : Meaning) (w : Bool) (laws : Laws w m) where
  -- every core that is marked standing is bounded
  abbrev pub Sound : State → Type 0
  Sound s = (k : ℕ) → marked s.marks k ≡ true → Bounded (asked m s) s.rows k

  abbrev Keeps : State → Type 0
  Keeps s = MarkedBy w s × Sound s

  at_first : (board : Board) (rows : List Row) → Keeps (fresh board rows)
  at_first board rows = (
    fresh_kind w board rows,
    λ k up. absurd (both_ways false refl (sym (ap stands (all_loose 8 k)) ∙ up)),
  )

  -- a change on core c: every other core sees no difference
  change : (s : State) (n : ℕ) (row : Row) (c : ℕ) → ((k : ℕ) → (k ≡ c → ⊥) → SameOn k s.rows (set s.rows n row)) → Keeps s → Keeps (changed s n row c)
  change s n row c same (by, sound) = (
    loosened_kind w s n row c by,
    λ k up.
        ⊎_elim
        (λ e. absurd (both_ways false refl (sym (ap stands (loosened_own s.marks c k e)) ∙ up)))
        (λ ne.
        let still = still_stands w (mark_at s.marks k) (by.kind k) (sym (ap stands (loosened_other s.marks c k ne)) ∙ up) in
        let new : List Row = set s.rows n row in
        let old = s.rows in
        stay_bounded k s.rows new (same k ne) (asked m s) (m s.board new)
        (λ i H on.
        laws.own still.0 s.board new k i H on
        ∙ ap (λ z. m s.board z i H) (own_same k s.rows new (same k ne))
        ∙ sym (laws.own still.0 s.board s.rows k i H (sym ((same k ne).tasks i) ∙ on)))
        (sound k still.1))
        (cases_eq k c),
  )

  -- a core marked, over rows where it is bounded and the others are if they were
  mark : (s : State) (rows : List Row) (core : ℕ) → core < s.board.cores → ((k : ℕ) → (k ≡ core → ⊥) → Bounded (asked m s) s.rows k → Bounded (m s.board rows) rows k) → Bounded (m s.board rows) rows core → Keeps s → Keeps (marked_by w s rows core)
  mark s rows core l others here (by, sound) = (
    marked_kind w s rows core l by,
    λ k up.
        ⊎_elim
        (λ e. subst (Bounded (m s.board rows) rows) (sym e) here)
        (λ ne. others k ne (sound k (sym (ap stands (set_other s.marks core k (standing w) ne)) ∙ up)))
        (cases_eq k core),
  )

  -- what a search comes to that finds an order
  pub ranks_first : (s : State) (core : ℕ) (xs : List ℕ) (t : ℕ) → searched m s core ≡ ordered xs t → RanksFirst (m s.board) s.rows core xs (written s.rows xs)
  ranks_first s core xs t e = orders w m laws s.board s.rows core (ordered xs t) (written s.rows xs) (decided w m laws s.board s.rows core (ordered xs t) (sym e)) refl

  keeps : Kept m w Keeps
  keeps = record {
    entering = λ s e fine accepted h.
        let tells = entry_tells s e fine accepted in
        let rows = s.rows in
        let there : row_at (set rows e.number (row_of e)) e.number ≡ row_of e = get_or-set_same rows e.number (row_of e) past tells.place.inside in
        change s e.number (row_of e) e.core
        (λ k ne. written_elsewhere rows e.number (row_of e) k (off_core rows k e.number tells.vacant)
        (other_core (set rows e.number (row_of e)) k e.number (λ z. ne (sym z ∙ ap (λ (q : Row). q.core) there))))
        h;
    withdrawing = λ s n accepted h.
        let tells = withdraw_tells s n accepted in
        let rows = s.rows in
        let there : row_at (set rows n empty_row) n ≡ empty_row = get_or-set_same rows n empty_row past tells.place.inside in
        change s n empty_row (row_at rows n).core
        (λ k ne. written_elsewhere rows n empty_row k (other_core rows k n (λ z. ne (sym z)))
        (off_core (set rows n empty_row) k n (no_task_from (set rows n empty_row) n (ap holds_task there))))
        h;
    amending = λ s n f accepted h.
        let tells = (amend_tells s n f accepted).0 in
        let rows = s.rows in
        let row = with_figures (row_at rows n) f in
        let there : row_at (set rows n (with_figures (row_at rows n) f)) n ≡ with_figures (row_at rows n) f = get_or-set_same rows n (with_figures (row_at rows n) f) past tells.place.inside in
        change s n (with_figures (row_at rows n) f) (row_at rows n).core
        (λ k ne. written_elsewhere rows n (with_figures (row_at rows n) f) k (other_core rows k n (λ z. ne (sym z)))
        (other_core (set rows n (with_figures (row_at rows n) f)) k n (λ z. ne (sym z ∙ ap (λ (q : Row). q.core) there))))
        h;
    judging = λ s core accepted h.
        let tells = judge_tells m s core accepted in
        mark s s.rows core tells.0 (λ k ne b. b) (judged-so (asked m s) s.rows core None (sym tells.1)) h;
    ordering = λ s core xs t inside found h.
        let first = ranks_first s core xs t found in
        let o = (decided w m laws s.board s.rows core (ordered xs t) (sym found)).order in
        mark s (written s.rows xs) core (ltb-true _ _ inside)
        (λ k ne b.
        stay_bounded k s.rows (written s.rows xs) (ranked_elsewhere s.rows core xs k o ne) (asked m s) (m s.board (written s.rows xs))
        (λ i H on. ap (λ (a : Answers). a i H) (sym (same_answers w m laws s.board xs s.rows (length xs))))
        b)
        first.bounded
        h;
  }

  pub always_sound : (board : Board) (rows : List Row) (cs : List Call) → Sound (after_all m w (fresh board rows) cs)
  always_sound board rows cs = (all_kept m w Keeps keeps cs (fresh board rows) (at_first board rows)).1
