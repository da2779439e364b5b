use Rattle.std.proofs.Common.{ℕ, rules, cond}
use Rattle.bounds.proofs.response.Ranked.costs.Goals as goal
use Rattle.bounds.specs.Demand.{cost}
use Rattle.bounds.specs.Rounds.{start}
use Rattle.table.proofs.FromFn.{from_fn_same}
use Rattle.table.specs.Rows.{on_board}

pub returns : goal.returns
unfolding start
returns c =
    let entry : ℕ → ℕ = λ k. cond (on_board c.args.self.now.table.board c.args.self.now.rows.now k) (cost c.args.self.now.rows.now k) 0 in
    from_fn_same _ entry _ 0 (λ i y q call. search rules) c.from_fn.result 64 c.from_fn.ensures.items
