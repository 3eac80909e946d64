use Rattle.move_msg.proofs.StreamLaws.{reads_stream}
use Rattle.move_msg.proofs.laws.reads_its_stream.Goals as goal

pub returns : goal.returns
returns c = reads_stream
