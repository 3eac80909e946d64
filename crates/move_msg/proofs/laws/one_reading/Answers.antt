use Rattle.move_msg.proofs.StreamLaws.{one_reading}
use Rattle.move_msg.proofs.laws.one_reading.Goals as goal

pub returns : goal.returns
returns c = one_reading
