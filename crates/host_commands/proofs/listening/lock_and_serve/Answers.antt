use Rattle.answer_parts.specs.Lines.{refusal_words}
use Rattle.game_folder.specs.OneGame.{one_game_facts}
use Rattle.host_commands.proofs.StepLaws.{goes_on, is_refused}
use Rattle.host_commands.specs.Inside.Parts.{served_one}
use Rattle.host_commands.specs.Listens.{RunsOne}
use Rattle.host_commands.specs.Locks.{LocksFile, kept_lock}
use Rattle.host_commands.proofs.listening.lock_and_serve.Goals as goal

pub returns-in-Ok-clause-made : goal.returns-in-Ok-clause-made
returns-in-Ok-clause-made g c =
    let o = g.S.System.outside c.args.system.now in
    let l = c.args.task.now in
    goes_on o _ _ _ (LocksFile o (kept_lock l.kept.now)) (λ held. RunsOne o (one_game_facts o) l (served_one c.args.served) c.args.port.now) c.in-Ok.held c.serve_one.result c.in-Ok.ensures c.serve_one.ensures.made

pub returns-in-Err-clause-made : goal.returns-in-Err-clause-made
returns-in-Err-clause-made g c =
    let o = g.S.System.outside c.args.system.now in
    let l = c.args.task.now in
    is_refused o _ _ _ (LocksFile o (kept_lock l.kept.now)) (λ held. RunsOne o (one_game_facts o) l (served_one c.args.served) c.args.port.now) (refusal_words c.in-Err.refusal) c.print_refusal.result c.in-Err.ensures c.print_refusal.ensures.made
