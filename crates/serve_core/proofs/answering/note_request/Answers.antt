use Rattle.std.proofs.Common.{◌∙◌}
use Rattle.serve_core.proofs.CallLaws.{nothing_noted, request_noted}
use Rattle.serve_core.proofs.answering.note_request.Goals as goal

pub returns-in-Err : goal.returns-in-Err
returns-in-Err g c = nothing_noted (g.S.System.outside c.args.system.now) _ _ _
