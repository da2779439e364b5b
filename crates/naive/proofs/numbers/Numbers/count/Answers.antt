use Rattle.naive.proofs.Counts.{counted}
use Rattle.naive.proofs.numbers.Numbers.count.Goals as goal
use Rattle.std.proofs.Common.{◌≡◌, sym, ap, ◌∙◌, rules, arith}
use Rattle.std.proofs.lemmas.List.{take_all}
use Rattle.std.specs.List.{count_by}

pub returns-clause-answer : goal.returns-clause-answer
returns-clause-answer c =
    let flags = c.args.self.now.flags in
    let ran : c.count.result ≡ count_by (λ b. b) flags = search rules in
    ran ∙ sym (ap (count_by (λ b. b)) (take_all 64 flags (omega arith))) ∙ counted flags 64 (omega arith)
