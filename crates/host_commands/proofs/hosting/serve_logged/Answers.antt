use Rattle.std.proofs.Common.{ℕ, List, refl, subst}
use Rattle.std.specs.Prelude.{Ok, Err}
use Rattle.answer_parts.specs.Printing.{OutputFails, Performs}
use Rattle.game_server.specs.Printing.{OfGames}
use Rattle.system_io.specs.declared.recipient.Recipient.{Recipient}
use Rattle.timeline.specs.Outsides.{AddsSome}
use Rattle.host_commands.proofs.HostLaws.{logged_so, outlived_so}
use Rattle.host_commands.proofs.OutlivingLaws.{done_outlives, isnt_error, not_outlived}
use Rattle.host_commands.proofs.RunLaws.{run_lost, run_performs}
use Rattle.host_commands.specs.Hosts.{AnswersLogged}
use Rattle.host_commands.specs.Inside.HostParts.{GoesOnUnlogged}
use Rattle.host_commands.proofs.hosting.serve_logged.Goals as goal

pub returns-in-Ok-clause-made : goal.returns-in-Ok-clause-made
returns-in-Ok-clause-made g c =
    let o = g.S.System.outside c.args.system.now in
    let facts = g.G.Games.facts c.args.system.now in
    let h = c.args.task.now in
    let at = c.args.at.now in
    let to = (o.port c.args.port.now).to in
    let ran = run_performs o facts (OfGames h.log) at.replies.most h.datagrams to at.server c.serve.new.at.server _ _ (Ok c.in-Ok.status) (rw c.requires.lines at c.in-Ok.ensures.run) in
    done_outlives o h _ _ (AnswersLogged o facts h at.replies.most to at.server) (Ok c.in-Ok.status) refl (logged_so o facts h at.replies.most to at.server _ _ (Ok c.in-Ok.status) ran)

pub returns-then-not-task-clause-made : goal.returns-then-not-task-clause-made
returns-then-not-task-clause-made g c =
    let o = g.S.System.outside c.args.system.now in
    let facts = g.G.Games.facts c.args.system.now in
    let h = c.args.task.now in
    let at = c.args.at.now in
    let to = (o.port c.args.port.now).to in
    let ran = run_performs o facts (OfGames h.log) at.replies.most h.datagrams to at.server c.serve.new.at.server _ _ (Err c.in-Err.fault) (rw c.requires.lines at c.in-Err.ensures.run) in
    not_outlived o h _ _ (AnswersLogged o facts h at.replies.most to at.server) (Err c.in-Err.fault) c.if-not-task.true (logged_so o facts h at.replies.most to at.server _ _ (Err c.in-Err.fault) ran)

pub returns-else-not-task-clause-made : goal.returns-else-not-task-clause-made
returns-else-not-task-clause-made g c =
    let o = g.S.System.outside c.args.system.now in
    let facts = g.G.Games.facts c.args.system.now in
    let h = c.args.task.now in
    let at = c.args.at.now in
    let left = c.serve.new.at in
    let to = (o.port c.args.port.now).to in
    let lost = run_lost o facts (OfGames h.log) at.replies.most h.datagrams to at.server left.server _ _ c.in-Err.fault (rw c.requires.lines at c.in-Err.ensures.run) in
    let rest = subst (λ (most : ℕ). AddsSome o c.serve.new.timeline c.go_on_unlogged.new.timeline (Performs (GoesOnUnlogged o facts most h.datagrams to left.server) c.go_on_unlogged.result)) c.in-Err.ensures.most
    (subst (λ (who : List Recipient). AddsSome o c.serve.new.timeline c.go_on_unlogged.new.timeline (Performs (GoesOnUnlogged o facts left.replies.most h.datagrams who left.server) c.go_on_unlogged.result)) c.in-Err.ensures.same.to c.go_on_unlogged.ensures.made) in
    outlived_so o facts h at.replies.most to at.server _ _ _ left.server c.go_on_unlogged.result c.if-not-task.false c.go_on_unlogged.ensures.done lost rest

pub returns-else-not-task-clause-cause : goal.returns-else-not-task-clause-cause
returns-else-not-task-clause-cause g c = isnt_error c.go_on_unlogged.result (OutputFails (g.S.System.outside c.args.system.now)) c.go_on_unlogged.ensures.done
