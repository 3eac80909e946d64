use Rattle.move_msg.proofs.RecordLaws.{one_record_spelling}
use Rattle.move_msg.proofs.laws.one_record_spelling.Goals as goal

pub returns : goal.returns
returns c = one_record_spelling
