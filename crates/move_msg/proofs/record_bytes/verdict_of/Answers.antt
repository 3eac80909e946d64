use Rattle.move_msg.proofs.RecordLaws.{code_kept}
use Rattle.move_msg.proofs.record_bytes.verdict_of.Goals as goal

pub returns : goal.returns
returns c = code_kept _ _ c.requires c.from_code.ensures.some c.from_code.ensures.only
