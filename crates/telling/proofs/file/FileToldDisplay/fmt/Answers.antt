use Rattle.std.proofs.Common.{refl, replicate}
use Rattle.std.proofs.Output.{has_written_of_eq}
use Rattle.telling.proofs.Filed.{file_told, never_refused}
use Rattle.telling.proofs.file.FileToldDisplay.fmt.Goals as goal

pub returns-in-Ok-clause-writes : goal.returns-in-Ok-clause-writes
returns-in-Ok-clause-writes g c = λ plain ok.
    let told = c.args.self.now in
    let wrote = c.in-Ok.ensures in
    let text = file_told told.board.now told.rows.now (replicate 3584 0) c.write_file.new.out c.in-Ok.size c.min.result c.min-in-Ok.result c.of-back.result.read c.of-back.result.same c.check_file.result refl wrote.answer wrote.buffer wrote.reads_back c.min.ensures c.min-in-Ok.ensures c.check_file.ensures c.of-back.ensures.read c.of-back.ensures.same in
    has_written_of_eq _ _ _ _ _ text (c.write.ensures.writes plain ok)

pub returns-in-Err-clause-writes : goal.returns-in-Err-clause-writes
returns-in-Err-clause-writes g c = absurd (never_refused c.args.self.now.board.now c.args.self.now.rows.now c.in-Err.refusal c.in-Err.ensures.answer)
