use Rattle.sheet.proofs.Taken.{stopped, taken_more, taken_stop}
use Rattle.sheet.proofs.open.OpenSheet.load_block.Goals as goal
use Rattle.sheet.specs.Loading.{check, record_steps}
use Rattle.sheet.specs.State.{state_of}
use Rattle.table.proofs.Refused.{none_refused, some_refused}
use Rattle.std.proofs.Common.{sym, refl, ap, ◌∙◌}

pub returns-in-Err : goal.returns-in-Err
returns-in-Err c =
    let bytes = c.args.reader.now.bytes.now in
    let s = state_of c.args.self.now in
    let k = c.args.block in
    record {
      loads = ap (stopped s) c.at.ensures ∙ sym (taken_stop bytes s c.args.before (check k) (record_steps bytes k) c.in-Err.cause (some_refused _ _ c.in-Err.ensures));
      few = tt;
      lent = refl;
    }

pub returns-in-Ok : goal.returns-in-Ok
returns-in-Ok c =
    let bytes = c.args.reader.now.bytes.now in
    let s = state_of c.args.self.now in
    let k = c.args.block in
    record {
      loads = c.load_records.ensures.loads ∙ sym (taken_more bytes s c.args.before (check k) (record_steps bytes k) (none_refused _ c.in-Ok.ensures));
      few = c.load_records.ensures.few;
      lent = c.load_records.ensures.lent;
    }
