use Rattle.std.proofs.Common.{◌∙◌, ap}
use Rattle.probe_api.specs.Replies.{refused}
use Rattle.probe_api.proofs.Texts.{of_position, of_fault}
use Rattle.probe_api.proofs.asking.answer_text.Goals as goal

pub returns-in-Ok-clause-is : goal.returns-in-Ok-clause-is
returns-in-Ok-clause-is c = of_position c.args.question c.args.set.now.tables c.args.text.now c.answer.result c.read.result c.in-Ok.position c.in-Ok.is c.in-Ok.ensures.position c.in-Ok.ensures.ok (c.read.ensures.only, c.read.ensures.only_fault) c.answer.ensures.is

pub returns-in-Err-clause-is : goal.returns-in-Err-clause-is
returns-in-Err-clause-is c = of_fault c.args.question c.args.set.now.tables c.args.text.now c.refused.result c.read.result c.in-Err.fault c.in-Err.is c.in-Err.ensures.err (c.read.ensures.only, c.read.ensures.only_fault) (c.refused.ensures ∙ ap refused c.fen_status.ensures)
