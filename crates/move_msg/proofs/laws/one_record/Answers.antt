use Rattle.move_msg.proofs.RecordLaws.{one_record}
use Rattle.move_msg.proofs.laws.one_record.Goals as goal

pub returns : goal.returns
returns c = one_record
