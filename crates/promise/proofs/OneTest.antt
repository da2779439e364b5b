-- Every mark was given by the one test, after every list of calls by it: so it says whether that test is wide.
use Rattle.std.proofs.Common.{◌≡◌, ℕ, ◌<◌, Bool, true, false, ◌⊎◌, List, map, length, refl, ap, ◌∙◌, inl, inr, ⊎_elim, arith}
use Rattle.ordering.specs.Writing.{written}
use Rattle.promise.proofs.Accepted.{judge_tells}
use Rattle.promise.proofs.Kept.{Kept}
use Rattle.promise.proofs.Marking.{all_loose, loosened_other, loosened_own, mark_at, set_other, set_own}
use Rattle.sheet.specs.Editing.{changed, row_of, with_figures}
use Rattle.sheet.specs.Marks.{narrowed, standing}
use Rattle.sheet.specs.Passing.{marked_by}
use Rattle.sheet.specs.State.{State, fresh}
use Rattle.sheet.specs.declared.marks.Mark.TheVariants.{Loose}
use Rattle.sheet.specs.declared.marks.Mark.{Mark}
use Rattle.std.proofs.lemmas.List.{length-map, length-set}
use Rattle.std.proofs.lemmas.Bool.{cases_eq, ltb-true}
use Rattle.table.specs.Rows.{empty_row, row_at}
use Rattle.table.specs.Tests.{Meaning}
use Rattle.table.specs.declared.board.Board.{Board}
use Rattle.table.specs.declared.row.Row.{Row}

-- every mark was given by a test that is wide or not, as w says; there is one for each of eight cores
pub record MarkedBy (w : Bool) (s : State) : Type 0 where
  pub eight : length s.marks ≡ 8
  pub kind : (k : ℕ) → (mark_at s.marks k ≡ Loose) ⊎ (mark_at s.marks k ≡ standing w)

narrowed_kind : (w : Bool) (t : Mark) → (t ≡ Loose) ⊎ (t ≡ standing w) → (narrowed t ≡ Loose) ⊎ (narrowed t ≡ standing w)
narrowed_kind w t (inl e) = inl (ap narrowed e)
narrowed_kind true t (inr e) = inl (ap narrowed e)
narrowed_kind false t (inr e) = inr (ap narrowed e)

pub loosened_kind : (w : Bool) (s : State) (n : ℕ) (row : Row) (c : ℕ) → MarkedBy w s → MarkedBy w (changed s n row c)
loosened_kind w s n row c h = record {
  eight = length-set (map narrowed s.marks) c Loose ∙ length-map s.marks narrowed ∙ h.eight;
  kind = λ k.
      ⊎_elim
      (λ e. inl (loosened_own s.marks c k e))
      (λ ne. ⊎_elim (λ z. inl (loosened_other s.marks c k ne ∙ z)) (λ z. inr (loosened_other s.marks c k ne ∙ z)) (narrowed_kind w (mark_at s.marks k) (h.kind k)))
      (cases_eq k c);
}

-- the board has at most eight cores
pub core_marked : (w : Bool) (s : State) (core : ℕ) → MarkedBy w s → core < s.board.cores → core < length s.marks
core_marked w s core h l = omega (arith, h.eight, s.board.few_cores)

pub marked_kind : (w : Bool) (s : State) (rows : List Row) (core : ℕ) → core < s.board.cores → MarkedBy w s → MarkedBy w (marked_by w s rows core)
marked_kind w s rows core l h = record {
  eight = length-set s.marks core (standing w) ∙ h.eight;
  kind = λ k.
      ⊎_elim
      (λ e. inr (set_own s.marks core k (standing w) (core_marked w s core h l) e))
      (λ ne. ⊎_elim (λ z. inl (set_other s.marks core k (standing w) ne ∙ z)) (λ z. inr (set_other s.marks core k (standing w) ne ∙ z)) (h.kind k))
      (cases_eq k core);
}

pub fresh_kind : (w : Bool) (board : Board) (rows : List Row) → MarkedBy w (fresh board rows)
fresh_kind w board rows = record { eight = refl; kind = λ k. inl (all_loose 8 k) }

pub kind_kept : (m : Meaning) (w : Bool) → Kept m w (MarkedBy w)
kind_kept m w = record {
  entering = λ s e fine accepted h. loosened_kind w s e.number (row_of e) e.core h;
  withdrawing = λ s n accepted h. loosened_kind w s n empty_row (row_at s.rows n).core h;
  amending = λ s n f accepted h. loosened_kind w s n (with_figures (row_at s.rows n) f) (row_at s.rows n).core h;
  judging = λ s core accepted h. marked_kind w s s.rows core (judge_tells m s core accepted).0 h;
  ordering = λ s core xs t inside found h. marked_kind w s (written s.rows xs) core (ltb-true _ _ inside) h;
}
