use Rattle.std.proofs.Common.{◌≡◌, ℕ, ◌≤◌, List, ◌++◌, map, length, take, drop, set, sym, ap, ◌∙◌, arith, rules}
use Rattle.sheet.proofs.marks.loosen.Goals as goal
use Rattle.sheet.specs.Marks.{narrowed}
use Rattle.sheet.specs.declared.marks.Mark.TheVariants.{Loose}
use Rattle.sheet.specs.declared.marks.Mark.{Mark}
use Rattle.std.proofs.lemmas.List.Edits.{map_over_more}
use Rattle.std.proofs.lemmas.List.{append-nil, drop_all, get_or_default, length-map, set_past, take_all}

all : (marks ys : List Mark) (n : ℕ) → length marks ≤ n → ys ≡ map narrowed (take n marks) ++ drop n marks → ys ≡ map narrowed marks
all marks ys n h e = e ∙ rw (take_all n marks h, drop_all n marks h) (append-nil (map narrowed marks))

pub loop-mark-preserved : goal.loop-mark-preserved
loop-mark-preserved c = search (rules, map_over_more narrowed, get_or_default)

pub returns-then-own-lt8 : goal.returns-then-own-lt8
returns-then-own-lt8 c = ap (λ ms. set ms c.args.core Loose) (all c.args.marks.now c.loop-mark.marks c.loop-mark.mark-index (omega arith) c.loop-mark.invariant)

pub returns-else-own-lt8 : goal.returns-else-own-lt8
returns-else-own-lt8 c =
    all c.args.marks.now c.loop-mark.marks c.loop-mark.mark-index (omega arith) c.loop-mark.invariant
    ∙ sym (set_past (map narrowed c.args.marks.now) c.args.core Loose (simp length-map (omega arith)))
