use Rattle.move_msg.proofs.WrittenLaws.{rewritten}
use Rattle.move_msg.proofs.written_record.rewrite.Goals as goal

pub returns : goal.returns
returns c = rewritten c.args.bytes.now.items c.args.code c.args.count c.to_be_bytes.result c.requires c.to_be_bytes.ensures
