use Rattle.report.proofs.Added.{five}
use Rattle.report.proofs.lines.push_core.Goals as goal
use Rattle.report.specs.Lines.{standing_word}
use Rattle.report.specs.Texts.{shown}
use Rattle.std.proofs.Common.{◌++◌, codes, decimal, ap, ◌∙◌, arith}

pub returns : goal.returns
returns c = record {
  shows =
      five (shown c.args.text.now) (shown c.push_bytes.new.self) (shown c.push_decimal.new.self) (shown c.push_bytes-2.new.self) (shown c.push_bytes-3.new.self) (shown c.push_bytes-4.new.self)
      (codes "core ") (decimal c.args.core) (codes " ") (standing_word c.args.standing) (codes "\n")
      c.push_bytes.ensures.shows
      (c.push_decimal.ensures.shows ∙ ap (λ n. shown c.push_bytes.new.self ++ decimal n) c.from.ensures)
      c.push_bytes-2.ensures.shows
      (c.push_bytes-3.ensures.shows ∙ ap (λ w. shown c.push_bytes-2.new.self ++ w) c.word_of.ensures.answer)
      c.push_bytes-4.ensures.shows;
  near = omega (arith, c.push_bytes.ensures.long, c.push_decimal.ensures.near, c.push_bytes-2.ensures.long, c.push_bytes-3.ensures.long, c.word_of.ensures.short, c.push_bytes-4.ensures.long);
}
