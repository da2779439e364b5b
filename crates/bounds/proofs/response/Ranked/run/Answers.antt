use Rattle.std.proofs.Common.{rules, ◌≡◌, ◌<◌, false, Some, Ok, Err, sym, ap, ◌∙◌, subst, arith}
use Rattle.bounds.proofs.Fair.{Fair, fair_next, fair_start}
use Rattle.bounds.proofs.Falling.{differs, left, left_falls, left_start, step_ends, step_on, step_refused}
use Rattle.bounds.proofs.response.Ranked.run.Goals as goal
use Rattle.bounds.specs.Rounds.{response, round_after, rounds, same, start}
use Rattle.std.proofs.lemmas.Slice.Eq.{slice_eq-Decides}
use Rattle.std.proofs.lemmas.Bool.{both_ways}
use Rattle.std.proofs.lemmas.Bool.Decides.{Decides-eqb}

pub loop-bounds-init : goal.loop-bounds-init
unfolding response
loop-bounds-init c =
    let board = c.args.self.now.table.board in
    let rows = c.args.self.now.rows.now in
    let e : c.costs-before.result ≡ start board rows = c.costs-before.ensures in (
      subst (Fair board rows) (sym e) (fair_start board rows),
      ap (rounds board rows 640000001 1) e,
      omega (arith, ap (left board rows) e, left_start board rows),
    )

-- what the round found
found : (c : goal.Else-eq) → Ok c.in_ok-bounds.bounds ≡ round_after c.args.self.now.table.board c.args.self.now.rows.now c.loop-bounds.before
found c = let ok : Ok c.in_ok-bounds.bounds ≡ c.round.result = search rules in ok ∙ c.round.ensures

changed : (c : goal.Else-eq) → same c.in_ok-bounds.bounds c.loop-bounds.before ≡ false
changed c =
    differs c.args.self.now.table.board c.args.self.now.rows.now c.loop-bounds.before c.in_ok-bounds.bounds
    (λ e. both_ways c.eq.result c.if-eq.false ((slice_eq-Decides Decides-eqb c.in_ok-bounds.bounds c.loop-bounds.before c.eq.result c.eq.ensures).1 e))

less : (c : goal.Else-eq) → left c.args.self.now.table.board c.args.self.now.rows.now c.in_ok-bounds.bounds < left c.args.self.now.table.board c.args.self.now.rows.now c.loop-bounds.before
less c =
    left_falls c.args.self.now.table.board c.args.self.now.rows.now c.loop-bounds.before c.in_ok-bounds.bounds (sym (found c)) c.loop-bounds.invariant.0 (changed c)

pub loop-bounds-smaller : goal.loop-bounds-smaller
loop-bounds-smaller c = less c

pub invariant_of-round : goal.invariant_of-round
invariant_of-round c = record { short = c.loop-bounds.invariant.0.small }

pub loop-bounds-preserved : goal.loop-bounds-preserved
loop-bounds-preserved c =
    let board = c.args.self.now.table.board in
    let rows = c.args.self.now.rows.now in
    let before = c.loop-bounds.before in
    let bounds = c.in_ok-bounds.bounds in (
      fair_next board rows before bounds (sym (found c)) c.loop-bounds.invariant.0,
      step_on board rows c.loop-bounds.round before bounds (omega (arith, c.loop-bounds.invariant.2)) c.loop-bounds.invariant.1 (found c) (changed c),
      omega (arith, less c, c.loop-bounds.invariant.2),
    )

pub returns-then-eq : goal.returns-then-eq
returns-then-eq c =
    let before = c.loop-bounds.before in
    let bounds = c.in_ok-bounds.bounds in
    let ok : Ok bounds ≡ c.round.result = search rules in
    step_ends c.args.self.now.table.board c.args.self.now.rows.now c.loop-bounds.round before bounds (omega (arith, c.loop-bounds.invariant.2)) c.loop-bounds.invariant.1 (ok ∙ c.round.ensures)
    ((slice_eq-Decides Decides-eqb bounds before c.eq.result c.eq.ensures).0 c.if-eq.true)

pub returns-in_err-bounds : goal.returns-in_err-bounds
returns-in_err-bounds c =
    let i = c.in_err-bounds.field-0.0.task in
    let none : Err i ≡ c.round.result = search rules in
    let is : c.from_residual.result ≡ Err (record { task = i; round = c.loop-bounds.round }) = search rules in
    step_refused c.args.self.now.table.board c.args.self.now.rows.now c.loop-bounds.round c.loop-bounds.before i (omega (arith, c.loop-bounds.invariant.2)) c.loop-bounds.invariant.1 (none ∙ c.round.ensures)
    ∙ ap Some (sym is)
