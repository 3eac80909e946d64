use Rattle.std.proofs.Common.{◌∙◌, ap}
use Rattle.probe_api.specs.Replies.{refused}
use Rattle.probe_api.proofs.Showing.{of_position, of_fault}
use Rattle.probe_api.proofs.asking.answer_board.Goals as goal

pub returns-in-Ok-clause-is : goal.returns-in-Ok-clause-is
returns-in-Ok-clause-is c = of_position c.args.question c.args.set.now.tables c.args.board.now c.answer.result c.in-Ok.position c.position_on.result c.in-Ok.is c.in-Ok.ensures.ok.0 c.in-Ok.ensures.ok.1 (c.position_on.ensures.only, c.position_on.ensures.only_fault) c.answer.ensures.is

pub returns-in-Err-clause-is : goal.returns-in-Err-clause-is
returns-in-Err-clause-is c = of_fault c.args.question c.args.set.now.tables c.args.board.now c.refused.result c.in-Err.fault c.position_on.result c.in-Err.is c.in-Err.ensures.err (c.position_on.ensures.only, c.position_on.ensures.only_fault) (c.refused.ensures ∙ ap refused c.position_status.ensures)
