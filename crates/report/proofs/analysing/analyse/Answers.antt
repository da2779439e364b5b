use Rattle.std.proofs.Common.{◌≡◌, ℕ, Some, None, Option, sym, ap, ◌∙◌, arith}
use Rattle.report.proofs.analysing.analyse.Goals as goal
use Rattle.report.specs.Program.{printed_for}
use Rattle.std.proofs.lemmas.Bool.{both_ways}
use Rattle.table.proofs.Boarded.{same_boards}
use Rattle.table.proofs.Refused.{none_refused}
use Rattle.table.specs.declared.board.Board.{Board}
use Rattle.table.specs.declared.refusal.Refusal.{Refusal}

-- no refusal is not a refusal
never : {X : Type 0} (o : Option Refusal) (why : Refusal) → o ≡ None → o ≡ Some why → X
never o why p q = let z : ◌≡◌ {A = ℕ} 0 1 = cc in absurd (omega arith)

pub returns-in-Ok : goal.returns-in-Ok
returns-in-Ok c =
    let bytes = c.args.bytes.now in
    let made = c.in-Ok.ensures.answer in
    let passes = none_refused _ c.in_default.ensures.answer in
    record {
      prints = record {
        bad_length = λ e. never _ _ passes e;
        bad_board = λ _ e. absurd (both_ways _ e made.0);
        analysed = λ _ board cores resources. c.analyse_for.ensures ∙ ap (λ (b : Board). printed_for b bytes) (same_boards c.in-Ok.board board (made.1 ∙ sym cores) (made.2 ∙ sym resources));
      };
    }
