use Rattle.std.proofs.Common.{arith}
use Rattle.move_msg.proofs.WordsLaws.{appends_more}
use Rattle.move_msg.proofs.record_bytes.push_words.Goals as goal

pub loop-m-preserved : goal.loop-m-preserved
loop-m-preserved c = appends_more _ _ _ _ _ _ (omega arith) c.m-item.is c.loop-m.invariant c.in_ok-push_word.ensures
