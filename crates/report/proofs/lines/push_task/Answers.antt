use Rattle.report.proofs.Added.{eight}
use Rattle.report.proofs.lines.push_task.Goals as goal
use Rattle.report.specs.Lines.{bound_word}
use Rattle.report.specs.Texts.{shown}
use Rattle.std.proofs.Common.{◌++◌, codes, decimal, ap, ◌∙◌, arith}

pub returns : goal.returns
returns c =
    let row = c.args.row.now in
    record {
      shows =
          eight (shown c.args.text.now) (shown c.push_decimal.new.self) (shown c.push_bytes.new.self) (shown c.push_decimal-2.new.self) (shown c.push_bytes-2.new.self) (shown c.push_decimal-3.new.self) (shown c.push_bytes-3.new.self) (shown c.push_bound.new.text) (shown c.push_bytes-4.new.self)
          (decimal c.args.number) (codes " ") (decimal row.core) (codes " ") (decimal row.rank) (codes " ") (bound_word c.args.bound) (codes "\n")
          (c.push_decimal.ensures.shows ∙ ap (λ n. shown c.args.text.now ++ decimal n) c.from.ensures)
          c.push_bytes.ensures.shows
          (c.push_decimal-2.ensures.shows ∙ ap (λ n. shown c.push_bytes.new.self ++ decimal n) c.from-2.ensures)
          c.push_bytes-2.ensures.shows
          (c.push_decimal-3.ensures.shows ∙ ap (λ n. shown c.push_bytes-2.new.self ++ decimal n) c.from-3.ensures)
          c.push_bytes-3.ensures.shows
          c.push_bound.ensures.shows
          c.push_bytes-4.ensures.shows;
      near = omega (arith, c.push_decimal.ensures.near, c.push_bytes.ensures.long, c.push_decimal-2.ensures.near, c.push_bytes-2.ensures.long, c.push_decimal-3.ensures.near, c.push_bytes-3.ensures.long, c.push_bound.ensures.near, c.push_bytes-4.ensures.long);
    }
