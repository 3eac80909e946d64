use Rattle.std.proofs.Common.{◌∙◌}
use Rattle.serve_core.proofs.ServeLaws.{not_noted, noted_so}
use Rattle.serve_core.specs.Serve.{unbound_front}
use Rattle.serve_core.proofs.serving.note_unbound.Goals as goal

pub returns-in-Ok : goal.returns-in-Ok
returns-in-Ok g c = noted_so (g.S.System.outside c.args.system.now) _ _ (unbound_front c.args.address.now) c.as_str.result.now c.in-Ok.ensures.0 (c.as_str.ensures.value ∙ c.in-Ok.ensures.1) c.note.ensures.made

pub returns-in-Err : goal.returns-in-Err
returns-in-Err g c = not_noted (g.S.System.outside c.args.system.now) _ (unbound_front c.args.address.now)
