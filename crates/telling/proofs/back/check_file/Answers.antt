use Rattle.std.proofs.Common.{◌≡◌, None, sym, ap, ◌∙◌, below_more}
use Rattle.tablefile.specs.Reading.{block_at}
use Rattle.tablefile.specs.Refusing.{block_refusal}
use Rattle.telling.proofs.Checked.{none_refused}
use Rattle.telling.proofs.back.check_file.Goals as goal

pub loop-number-preserved : goal.loop-number-preserved
loop-number-preserved c =
    let number = c.loop-number.number in
    let block = c.block.ensures.answer ∙ ap (λ bytes. block_at bytes number) c.new-reader.ensures.answer in (
      c.loop-number.invariant.0,
      below_more (λ k. block_refusal c.args.board.now k (block_at c.args.bytes.now k) ≡ None) _ c.loop-number.invariant.1
          (ap (block_refusal c.args.board.now number) (sym block) ∙ none_refused _ _ c.in_ok-check_block.ensures.answer),
    )
