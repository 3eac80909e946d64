use Rattle.std.proofs.Common.{◌∙◌}
use Rattle.http_answer.proofs.ReadLaws.{asked_again, asked_so, nothing_asked}
use Rattle.http_answer.proofs.answerer.Answerer.answer.Goals as goal

pub returns-in_err-topic-clause-made : goal.returns-in_err-topic-clause-made
returns-in_err-topic-clause-made g c = nothing_asked g.S.System.outside c.args.self.now.disk.system.now c.args.self.now.folder _ _

pub returns-then-is_ok-clause-made : goal.returns-then-is_ok-clause-made
returns-then-is_ok-clause-made g c = asked_so g.S.System.outside c.args.self.now _ _ _ _ c.in_ok-topic.ensures c.reply.ensures.made

pub returns-in_err-apart-clause-made : goal.returns-in_err-apart-clause-made
returns-in_err-apart-clause-made g c = asked_so g.S.System.outside c.args.self.now _ _ _ _ c.in_ok-topic.ensures c.reply.ensures.made

pub returns-clause-made : goal.returns-clause-made
returns-clause-made g c =
    asked_again g.S.System.outside c.in_ok-apart.apart c.args.self.now _ _ _ _ _ c.in_ok-topic.ensures (c.in_ok-apart.ensures ∙ c.reply.ensures.same) c.reply.ensures.made c.reply-2.ensures.made
