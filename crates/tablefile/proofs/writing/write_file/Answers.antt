use Rattle.std.proofs.Common.{◌≡◌, ℕ, ◌+◌, ◌-◌, ◌*◌, ◌<◌, ◌≤◌, List, [], ◌++◌, length, drop, sym, ap, ◌∙◌, subst, below_none, below_more, arith}
use Rattle.tablefile.proofs.Laid.{laid_into, laid_into_more, laid_into_none}
use Rattle.tablefile.proofs.Lengths.{length_block, length_file}
use Rattle.tablefile.proofs.Returned.{written_back}
use Rattle.tablefile.proofs.Written.{chosen_within, long_answer, long_buffer, short_answer, short_buffer}
use Rattle.tablefile.proofs.writing.write_file.Goals as goal
use Rattle.tablefile.specs.Layout.{block_bytes, blocks_for, file_bytes, in_block}
use Rattle.tablefile.specs.Numbers.{AllFour, numbers, records_for}
use Rattle.tablefile.specs.Parts.{part}
use borrow.Rule.Slice.PartMut.{put_mid}

pub returns-then-out-blocks : goal.returns-then-out-blocks
returns-then-out-blocks c =
    let board = c.args.board.now in
    let rows = c.args.rows.now in
    let many : c.len.result ≡ length (numbers rows) = c.len.ensures.value ∙ ap length c.gather-found.ensures in
    let less : length c.args.out.now < length (file_bytes board rows) = omega (arith, length_file board rows, ap blocks_for many, c.if-out-blocks.true) in
    record { answer = short_answer board rows (length c.args.out.now) less; buffer = short_buffer board rows c.args.out.now less; reads_back = tt }

pub loop-k-init : goal.loop-k-init
loop-k-init c = record {
  written = sym (laid_into_none [] c.args.out.now 512 (λ k. block_bytes c.args.board.now k (in_block c.args.rows.now k)));
  four = below_none _;
}

pub block_bytes-block-requires-clause-within : goal.block_bytes-block-requires-clause-within
block_bytes-block-requires-clause-within c =
    let rows = c.args.rows.now in
    let k = c.loop-k.k in
    chosen_within rows c.part_of-chosen.result.now k (c.part_of-chosen.ensures ∙ ap (λ ns. part ns (10 * k) 10) (c.deref.ensures.0 ∙ c.gather-found.ensures))

pub loop-k-preserved : goal.loop-k-preserved
loop-k-preserved c =
    let board = c.args.board.now in
    let rows = c.args.rows.now in
    let k = c.loop-k.k in
    let f : ℕ → List ℕ = λ k. block_bytes board k (in_block rows k) in
    let chosen : c.part_of-chosen.result.now ≡ part (numbers rows) (10 * k) 10 =
    c.part_of-chosen.ensures ∙ ap (λ ns. part ns (10 * k) 10) (c.deref.ensures.0 ∙ c.gather-found.ensures) in
    let block : c.copy_from_slice.new.self ≡ f k =
    c.copy_from_slice.ensures.after ∙ c.block_bytes-block.ensures.answer ∙ ap (λ ns. block_bytes board k (records_for rows ns)) chosen in
    record {
      written = ap (λ bs. put_mid (512 * k) (512 * (k + 1) - 512 * k) bs c.copy_from_slice.new.self) c.loop-k.invariant.written
          ∙ laid_into_more [] c.args.out.now c.copy_from_slice.new.self 512 f k (512 * k) (512 * (k + 1) - 512 * k) (λ j. length_block board j (in_block rows j)) (omega arith) (omega arith) block;
      four = below_more _ _ c.loop-k.invariant.four (subst (λ ns. AllFour ns rows) chosen c.block_bytes-block.ensures.four);
    }

pub returns : goal.returns
unfolding file_bytes
returns c =
    let board = c.args.board.now in
    let rows = c.args.rows.now in
    let out = c.args.out.now in
    let n = 512 * c.blocks_needed-blocks.result in
    let many : c.len.result ≡ length (numbers rows) = c.len.ensures.value ∙ ap length c.gather-found.ensures in
    let all : c.loop-k.k ≡ blocks_for (length (numbers rows)) = omega (arith, ap blocks_for many) in
    let long : n ≡ length (file_bytes board rows) = omega (arith, length_file board rows, ap blocks_for many) in
    let room : length (file_bytes board rows) ≤ length out = omega (arith, c.if-out-blocks.false) in
    let written =
    c.loop-k.invariant.written
    ∙ ap (laid_into [] out 512 (λ k. block_bytes board k (in_block rows k))) all
    ∙ ap (λ k. file_bytes board rows ++ drop k out) (sym (length_file board rows))
    ∙ sym (long_buffer board rows out room) in
    record {
      answer = long_answer board rows (length out) n room long;
      buffer = written;
      reads_back = written_back board rows out c.loop-k.out n (λ k h. c.loop-k.invariant.four k (omega arith)) room long written;
    }
