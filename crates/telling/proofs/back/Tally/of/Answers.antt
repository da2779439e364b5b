use Rattle.std.proofs.Common.{◌<◌, length, sym, ap, subst, arith}
use Rattle.tablefile.specs.Reading.{count_at}
use Rattle.telling.proofs.Backed.{total_more, total_none}
use Rattle.telling.proofs.back.Tally.of.Goals as goal
use Rattle.telling.specs.Reading.{BlockSame, blocks_in}

pub loop-block-init : goal.loop-block-init
loop-block-init c =
    let none = total_none (count_at c.args.bytes.now) in
    (omega (arith, none), λ all. omega (arith, none))

pub loop-block-preserved : goal.loop-block-preserved
loop-block-preserved c =
    let block = c.loop-block.block in
    let bytes = c.new-reader.ensures.answer in
    let more = total_more (count_at c.args.bytes.now) block in
    let count = ap (λ bs. count_at bs block) bytes in
    let within : block < blocks_in c.args.bytes.now = omega (arith, c.blocks_in-blocks.ensures, ap length bytes) in (
      omega (arith, more, count, c.and_block-tally.ensures.read, c.loop-block.invariant.0),
      λ all.
          omega (arith, more, count, c.and_block-tally.ensures.same (subst (λ bs. BlockSame c.args.rows.now bs block) (sym bytes) (all block within)), c.loop-block.invariant.1 all),
    )
