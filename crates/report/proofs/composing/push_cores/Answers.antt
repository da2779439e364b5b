use Rattle.std.proofs.Common.{◌≡◌, ◌++◌, ap, ◌∙◌, arith}
use Rattle.report.proofs.Added.{added_more, added_none}
use Rattle.report.proofs.composing.push_cores.Goals as goal
use Rattle.report.specs.Lines.{core_line}
use Rattle.report.specs.Report.{line_of_core}
use Rattle.report.specs.Texts.{shown}
use Rattle.tablefile.specs.Parts.{laid}

pub loop-k-init : goal.loop-k-init
loop-k-init c = (added_none (shown c.args.text.now) (line_of_core c.args.marks.now), omega arith)

pub push_core-requires : goal.push_core-requires
push_core-requires c = omega (arith, c.requires, c.loop-k.invariant.1, c.loop-k-test.true, c.args.board.now.few_cores)

pub loop-k-preserved : goal.loop-k-preserved
loop-k-preserved c =
    let k = c.loop-k.k in (
      added_more (shown c.args.text.now) (shown c.loop-k.text) (shown c.push_core.new.text) k (line_of_core c.args.marks.now) c.loop-k.invariant.0
          (c.push_core.ensures.shows ∙ ap (λ up. shown c.loop-k.text ++ core_line k up) c.is_standing.ensures.answer),
      omega (arith, c.push_core.ensures.near, c.loop-k.invariant.1),
    )

pub returns : goal.returns
returns c =
    let last : c.loop-k.k ≡ c.args.board.now.cores = omega (arith, c.loop-k-test.false, c.loop-k.auto.k-end) in
    record {
      shows = c.loop-k.invariant.0 ∙ ap (λ n. shown c.args.text.now ++ laid n (line_of_core c.args.marks.now)) last;
      near = omega (arith, c.loop-k.invariant.1, c.loop-k.auto.k-end, c.args.board.now.few_cores);
    }
