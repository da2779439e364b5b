use Rattle.promise.proofs.applying.apply_all.Given as goal
use Rattle.promise.specs.Calls.{after_all, answers_to}
use Rattle.sheet.specs.State.{state_of}
use Rattle.std.proofs.Common.{◌≡◌, ◌++◌, take, drop}

-- what is left comes to what the whole list comes to
abbrev pub invariant-loop-i : goal.invariant-loop-i
invariant-loop-i g l =
    (after_all (g.T.Test.meaning l.test) g.T.Test.wide (state_of l.sheet) (drop l.i l.calls) ≡ after_all (g.T.Test.meaning l.test) g.T.Test.wide (state_of l.initial.sheet) l.calls)
    × (take l.i l.answers ++ answers_to (g.T.Test.meaning l.test) g.T.Test.wide (state_of l.sheet) (drop l.i l.calls) ≡ answers_to (g.T.Test.meaning l.test) g.T.Test.wide (state_of l.initial.sheet) l.calls)
    × (drop l.i l.answers ≡ drop l.i l.initial.answers)
    × (l.sheet.rows.ghost_name ≡ l.initial.sheet.rows.ghost_name)
