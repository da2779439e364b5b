use Rattle.std.proofs.Common.{◌≡◌, ◌*◌, ◌≤◌}
use Rattle.sheet.proofs.Taken.{going}
use Rattle.sheet.proofs.open.OpenSheet.load.Given as goal
use Rattle.sheet.specs.Loading.{block_steps, taken}
use Rattle.sheet.specs.State.{state_of}
use Rattle.tablefile.specs.Parts.{laid}

-- the blocks before this one were loaded
abbrev pub invariant-loop-block : goal.invariant-loop-block
invariant-loop-block l =
    (taken l.bytes (state_of l.initial.self) 0 (laid l.block (block_steps l.bytes)) ≡ going (state_of l.self) l.entered)
    × (l.entered ≤ 255 * l.block)
    × (l.self.rows.ghost_name ≡ l.initial.self.rows.ghost_name)
