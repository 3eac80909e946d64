use Rattle.source_core.proofs.HeardLaws.{sent_happened}
use Rattle.source_core.proofs.exchange.send.Goals as goal

pub returns-clause-happened : goal.returns-clause-happened
returns-clause-happened g c = sent_happened _ _ _ _ _ _ _ c.send-sent.ensures.made c.send-sent.ensures.same.same.to c.send-sent.ensures.same.sender
