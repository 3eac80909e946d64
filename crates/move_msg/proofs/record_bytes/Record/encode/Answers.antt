use Rattle.std.proofs.Common.{rules}
use Rattle.move_msg.specs.Records.{WritesRecord}
use Rattle.move_msg.proofs.RecordLaws.{written_length}
use Rattle.move_msg.proofs.record_bytes.Record.encode.Goals as goal

pub returns-clause-size : goal.returns-clause-size
returns-clause-size c =
    let written : WritesRecord c.push_words.new.out.items c.args.self.now = search rules in
    written_length _ _ written
