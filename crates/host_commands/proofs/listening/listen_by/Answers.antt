use Rattle.std.proofs.Common.{subst}
use Rattle.std.specs.Prelude.{Err}
use Rattle.answer_parts.specs.Lines.{refusal_words}
use Rattle.game_folder.specs.OneGame.{OneGameView}
use Rattle.host_commands.proofs.StepLaws.{after_line, goes_on, is_refused, line_lost}
use Rattle.host_commands.specs.Inside.Parts.{DoesIn, one_view}
use Rattle.host_commands.specs.Listens.{LocksAndRuns, OneServed, StartsOne}
use Rattle.host_commands.specs.Steps.{AfterLine}
use Rattle.host_commands.proofs.listening.listen_by.Goals as goal

pub returns-in-Err-clause-made : goal.returns-in-Err-clause-made
returns-in-Err-clause-made g c =
    let o = g.S.System.outside c.args.system.now in
    let l = c.args.task.now in
    is_refused o _ _ _ (StartsOne o l c.args.sources.now) (λ at. AfterLine at.line (LocksAndRuns o l at.served at.port)) (refusal_words c.in-Err.refusal) c.print_refusal.result c.in-Err.ensures c.print_refusal.ensures.made

pub returns-in-Err-print_line-clause-made : goal.returns-in-Err-print_line-clause-made
returns-in-Err-print_line-clause-made g c =
    let o = g.S.System.outside c.args.system.now in
    let l = c.args.task.now in
    let at = one_view l c.in-Ok.opened in
    goes_on o _ _ _ (StartsOne o l c.args.sources.now) (λ at. AfterLine at.line (LocksAndRuns o l at.served at.port)) at (Err c.in-Err-print_line.fault) c.in-Ok.ensures
    (line_lost o _ _ at.line (LocksAndRuns o l at.served at.port) c.in-Err-print_line.fault c.in-Err-print_line.ensures.made)

pub returns-clause-made : goal.returns-clause-made
returns-clause-made g c =
    let o = g.S.System.outside c.args.system.now in
    let l = c.args.task.now in
    let at = one_view l c.in-Ok.opened in
    let ran = subst (λ (s : OneServed OneGameView). DoesIn o (LocksAndRuns o l s at.port) c.print_line.new.timeline c.lock_and_serve.new.timeline c.lock_and_serve.result) (rw c.deref.ensures.value at c.served_from-served.ensures) c.lock_and_serve.ensures.made in
    goes_on o _ _ _ (StartsOne o l c.args.sources.now) (λ at. AfterLine at.line (LocksAndRuns o l at.served at.port)) at c.lock_and_serve.result c.in-Ok.ensures
    (after_line o _ _ _ at.line (LocksAndRuns o l at.served at.port) tt c.lock_and_serve.result c.in-Ok-print_line.ensures.made ran)
