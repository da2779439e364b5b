use Rattle.std.proofs.Common.{rules, get_or, ◌≡◌, ℕ, ◌+◌, ◌<◌, ◌≤◌, sum_by, sym, ap, ◌∙◌, subst}
use Rattle.bounds.proofs.question.Own.sums.Goals as goal
use Rattle.bounds.specs.Loads.{weight_at}
use Rattle.shortlist.specs.Items.{items}
use Rattle.table.proofs.Limited.{each_small, limited}

pub sums-requires : goal.sums-requires
sums-requires c =
    let figures = c.args.self.now.task.figures in
    let k = limited figures c.args.self.now.task.limits in
    let same : (r : ℕ) → r < 4 → get_or c.map.result r 0 ≡ get_or figures.sensitivity r 0 = λ r l. (let h = c.map.ensures.items.at r 0 0 l in search rules) in
    record {
      cost = k.cost_high;
      shared = λ r l. subst (λ n. n ≤ 10000000) (sym (same r l)) (each_small figures.sensitivity k.sensitivity_small r l);
    }

pub returns : goal.returns
returns c =
    let own = c.args.self.now in
    let same : (r : ℕ) → r < 4 → get_or c.map.result r 0 ≡ get_or own.task.figures.sensitivity r 0 = λ r l. (let h = c.map.ensures.items.at r 0 0 l in search rules) in
    record {
      value = record {
        cost = c.sums.ensures.total.cost;
        shared = λ r l. c.sums.ensures.total.shared r l ∙ ap (λ n. n + sum_by (weight_at r c.args.window.length) (items own.higher)) (same r l);
      };
      small = c.sums.ensures.small;
    }
