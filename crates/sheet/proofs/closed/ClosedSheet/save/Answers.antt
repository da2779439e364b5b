use Rattle.sheet.proofs.Saved.{saves_so}
use Rattle.sheet.proofs.closed.ClosedSheet.save.Goals as goal

pub returns : goal.returns
returns c =
    let sheet = c.args.self.now.sheet in
    record {
      answer = c.write_file.ensures.answer;
      buffer = c.write_file.ensures.buffer;
      loads_back = saves_so sheet.board sheet.rows.now c.write_file.result c.write_file.new.out c.write_file.ensures.reads_back;
    }
