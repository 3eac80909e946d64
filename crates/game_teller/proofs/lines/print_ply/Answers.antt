use Rattle.std.proofs.lemmas.Result.{on_err_weaker}
use Rattle.answer_parts.proofs.PrintLaws.{fails_at, stuck_at}
use Rattle.game_teller.specs.Plies.{ply_words}
use Rattle.game_teller.proofs.StepLaws.{ply_cut, ply_out}
use Rattle.game_teller.proofs.lines.print_ply.Goals as goal

pub returns-in-Ok-clause-made : goal.returns-in-Ok-clause-made
returns-in-Ok-clause-made g c =
    let made = rw c.ply_line.ensures at c.in-Ok.ensures.made in
    ply_out (g.S.System.outside c.args.system.now) _ _ _ (ply_words c.args.number c.args.verdict c.args.position.now) tt c.flush.result made c.flush.ensures.made

pub returns-in-Ok-clause-cause : goal.returns-in-Ok-clause-cause
returns-in-Ok-clause-cause g c = on_err_weaker c.flush.result (λ h. stuck_at (g.S.System.outside c.args.system.now) _ h) c.flush.ensures.stuck

pub returns-in-Err-clause-made : goal.returns-in-Err-clause-made
returns-in-Err-clause-made g c =
    let made = rw c.ply_line.ensures at c.in-Err.ensures.made in
    ply_cut (g.S.System.outside c.args.system.now) _ _ (ply_words c.args.number c.args.verdict c.args.position.now) c.in-Err.fault made

pub returns-in-Err-clause-cause : goal.returns-in-Err-clause-cause
returns-in-Err-clause-cause g c = fails_at (g.S.System.outside c.args.system.now) _ c.in-Err.ensures.cause
