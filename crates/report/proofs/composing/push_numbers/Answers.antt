use Rattle.report.proofs.Added.{added_more, added_none}
use Rattle.report.proofs.composing.push_numbers.Goals as goal
use Rattle.report.specs.Report.{line_of_number}
use Rattle.report.specs.Texts.{shown}
use Rattle.tablefile.specs.Parts.{laid}
use Rattle.std.proofs.Common.{◌≡◌, ◌++◌, ap, ◌∙◌, arith}

pub loop-number-init : goal.loop-number-init
loop-number-init g c = (added_none (shown c.args.text.now) (line_of_number (g.T.Test.meaning c.args.asking.now.test.now c.args.asking.now.board c.args.asking.now.rows.now) c.args.asking.now.rows.now), omega arith)

pub push_number-requires : goal.push_number-requires
push_number-requires g c = omega (arith, c.requires, c.loop-number.invariant.1, c.loop-number-test.true)

pub loop-number-preserved : goal.loop-number-preserved
loop-number-preserved g c =
    let line = line_of_number (g.T.Test.meaning c.args.asking.now.test.now c.args.asking.now.board c.args.asking.now.rows.now) c.args.asking.now.rows.now in (
      added_more (shown c.args.text.now) (shown c.loop-number.text) (shown c.push_number.new.text) c.loop-number.number line c.loop-number.invariant.0 c.push_number.ensures.shows,
      omega (arith, c.push_number.ensures.near, c.loop-number.invariant.1),
    )

pub returns : goal.returns
returns g c =
    let line = line_of_number (g.T.Test.meaning c.args.asking.now.test.now c.args.asking.now.board c.args.asking.now.rows.now) c.args.asking.now.rows.now in
    let last : c.loop-number.number ≡ 64 = omega (arith, c.loop-number-test.false, c.loop-number.auto.number-end) in
    record { shows = c.loop-number.invariant.0 ∙ ap (λ n. shown c.args.text.now ++ laid n line) last }
