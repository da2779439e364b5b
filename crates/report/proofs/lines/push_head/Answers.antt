use Rattle.report.proofs.Added.{five}
use Rattle.report.proofs.lines.push_head.Goals as goal
use Rattle.report.specs.Texts.{shown}
use Rattle.std.proofs.Common.{◌++◌, codes, decimal, ap, ◌∙◌, arith}

pub returns : goal.returns
returns c =
    let board = c.args.board.now in
    record {
      shows =
          five (shown c.args.text.now) (shown c.push_bytes.new.self) (shown c.push_decimal.new.self) (shown c.push_bytes-2.new.self) (shown c.push_decimal-2.new.self) (shown c.push_bytes-3.new.self)
          (codes "cores ") (decimal board.cores) (codes " shared ") (decimal board.resources) (codes "\n")
          c.push_bytes.ensures.shows
          (c.push_decimal.ensures.shows ∙ ap (λ n. shown c.push_bytes.new.self ++ decimal n) c.from.ensures)
          c.push_bytes-2.ensures.shows
          (c.push_decimal-2.ensures.shows ∙ ap (λ n. shown c.push_bytes-2.new.self ++ decimal n) c.from-2.ensures)
          c.push_bytes-3.ensures.shows;
      near = omega (arith, c.push_bytes.ensures.long, c.push_decimal.ensures.near, c.push_bytes-2.ensures.long, c.push_decimal-2.ensures.near, c.push_bytes-3.ensures.long);
    }
