use Rattle.std.proofs.Common.{◌+◌, ◌<◌, ◌≤◌, length, sym, subst, arith}
use Rattle.bounds.proofs.Gathered.{gathers_no, gathers_none, gathers_yes}
use Rattle.bounds.proofs.gathering.gather.Goals as goal
use Rattle.bounds.proofs.gathering.gather.Goals.{in-Some, in_default}
use Rattle.bounds.specs.Gathering.{Gathers}
use Rattle.shortlist.specs.Items.{items}

pub loop-number-init : goal.loop-number-init
loop-number-init g c = subst (λ xs. (length xs ≤ 0) × Gathers (g.P.Pick.picks c.args.picker.now) (g.P.Pick.forms c.args.picker.now) 0 xs) (sym c.new-loads.ensures) (omega arith, gathers_none _ _)

pub loop-number-preserved : goal.loop-number-preserved
loop-number-preserved g c =
    let picks = g.P.Pick.picks c.args.picker.now in
    let forms = g.P.Pick.forms c.args.picker.now in
    let j = c.loop-number.number in
    elim c.match-pick.branch [
      | in-Some w ↦
          let picked = w.in-Some.ensures in
          let room : length (items c.loop-number.loads) < 64 = omega (arith, c.loop-number.invariant.0, c.loop-number-test.true) in
          subst (λ x. (length (items x) ≤ j + 1) × Gathers picks forms (j + 1) (items x)) (sym w.loads-is)
          (omega (arith, w.push.ensures.len room, c.loop-number.invariant.0), subst (Gathers picks forms (j + 1)) (sym (w.push.ensures.room room)) (gathers_yes picks forms j (items c.loop-number.loads) w.in-Some.load picked.0 picked.1 c.loop-number.invariant.1))
      | in_default w ↦
          subst (λ x. (length (items x) ≤ j + 1) × Gathers picks forms (j + 1) (items x)) (sym w.loads-is)
          (omega (arith, c.loop-number.invariant.0), gathers_no picks forms j (items c.loop-number.loads) w.in_default.ensures c.loop-number.invariant.1)
    ]
