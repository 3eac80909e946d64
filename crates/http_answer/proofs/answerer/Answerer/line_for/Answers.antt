use Rattle.std.proofs.Common.{refl}
use Rattle.std.proofs.lemmas.Result.{IfOk-weaker}
use Rattle.json_lines.specs.ApiTold.{ForNone, ForPosition}
use Rattle.http_answer.proofs.ReadLaws.{nothing_for, position_read}
use Rattle.http_answer.proofs.answerer.Answerer.line_for.Goals as goal

pub returns-in-Err-clause-answer : goal.returns-in-Err-clause-answer
returns-in-Err-clause-answer g c = ForNone c.in-Err.fault c.in-Err.ensures.err refl

pub returns-in-Ok-clause-answer : goal.returns-in-Ok-clause-answer
returns-in-Ok-clause-answer g c = IfOk-weaker c.line_of.result _ _ (λ l is. ForPosition c.in-Ok.position c.in-Ok.ensures.ok c.in-Ok.ensures.position is) c.line_of.ensures.answer

pub returns-in-Ok-clause-made : goal.returns-in-Ok-clause-made
returns-in-Ok-clause-made g c = position_read g.S.System.outside c.args.self.now _ _ _ c.in-Ok.position c.in-Ok.ensures.ok c.in-Ok.ensures.position c.line_of.ensures.made

pub returns-in-Err-clause-made : goal.returns-in-Err-clause-made
returns-in-Err-clause-made g c = nothing_for g.S.System.outside _ _ _ _
