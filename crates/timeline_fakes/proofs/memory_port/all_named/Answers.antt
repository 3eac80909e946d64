use Rattle.timeline_fakes.proofs.WordLaws.{named_more}
use Rattle.timeline_fakes.proofs.memory_port.all_named.Goals as goal

pub loop-word-preserved : goal.loop-word-preserved
loop-word-preserved c = λ own. named_more own c.args.words.now c.loop-word.word-index _ c.loop-word.all.items c.push.new.self.items c.named.result c.in_ok-push.ensures.items c.loop-word-test.true (c.named.ensures own) (c.loop-word.invariant own)
