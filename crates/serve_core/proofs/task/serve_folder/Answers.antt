use Rattle.std.proofs.Common.{◌∙◌, ap}
use Rattle.http_answer.specs.Reads.{paths_of}
use Rattle.serve_core.proofs.CallLaws.{paths_for}
use Rattle.serve_core.proofs.ServeLaws.{no_room}
use Rattle.serve_core.proofs.task.serve_folder.Goals as goal

pub returns-in_default-clause-made : goal.returns-in_default-clause-made
returns-in_default-clause-made g c = no_room (g.S.System.outside c.args.by.now.system.now) _ _ _ _ c.print_refusal.result c.print_refusal.ensures.made

pub serve_at-requires-clause-named : goal.serve_at-requires-clause-named
serve_at-requires-clause-named g c = ap paths_of c.games_of.ensures ∙ paths_for c.args.by.now c.args.task.now
