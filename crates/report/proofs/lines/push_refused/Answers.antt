use Rattle.report.proofs.Added.{five}
use Rattle.report.proofs.lines.push_refused.Goals as goal
use Rattle.report.specs.Texts.{shown}
use Rattle.std.proofs.Common.{◌++◌, codes, decimal, ap, ◌∙◌}

pub returns : goal.returns
returns c =
    five (shown c.args.text.now) (shown c.push_bytes.new.self) (shown c.push_decimal.new.self) (shown c.push_bytes-2.new.self) (shown c.push_decimal-2.new.self) (shown c.push_bytes-3.new.self)
    (codes "refused ") (decimal c.args.number) (codes " entered ") (decimal c.args.entered) (codes "\n")
    c.push_bytes.ensures.shows
    (c.push_decimal.ensures.shows ∙ ap (λ n. shown c.push_bytes.new.self ++ decimal n) c.from.ensures)
    c.push_bytes-2.ensures.shows
    c.push_decimal-2.ensures.shows
    c.push_bytes-3.ensures.shows
