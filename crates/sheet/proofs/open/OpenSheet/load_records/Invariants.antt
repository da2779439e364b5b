use Rattle.std.proofs.Common.{◌≡◌, ◌+◌, ◌≤◌}
use Rattle.sheet.proofs.Taken.{going}
use Rattle.sheet.proofs.open.OpenSheet.load_records.Given as goal
use Rattle.sheet.specs.Loading.{one_record, taken}
use Rattle.sheet.specs.State.{state_of}
use Rattle.tablefile.specs.Parts.{laid}

-- the records before this position were entered
abbrev pub invariant-loop-position : goal.invariant-loop-position
invariant-loop-position l =
    (taken l.reader.bytes.now (state_of l.initial.self) l.before (laid l.position (one_record l.block)) ≡ going (state_of l.self) l.entered)
    × (l.entered ≤ l.before + l.position)
    × (l.self.rows.ghost_name ≡ l.initial.self.rows.ghost_name)
