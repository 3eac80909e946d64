use Rattle.move_msg.proofs.HeardLaws.{one_message}
use Rattle.move_msg.proofs.laws.one_message.Goals as goal

pub returns : goal.returns
returns c = one_message
