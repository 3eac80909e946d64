use Rattle.std.proofs.Common.{ℕ, refl, subst}
use Rattle.answer_parts.specs.Printing.{Performs}
use Rattle.arbiter_server.specs.Games.{common_with}
use Rattle.line_teller.specs.ToldLines.{refused_memory}
use Rattle.timeline.specs.Outsides.{AddsSome}
use Rattle.host_commands.proofs.StepLaws.{goes_on_so, is_refused_so}
use Rattle.host_commands.specs.Listens.{OpensAndAnswers}
use Rattle.host_commands.specs.ServerRuns.{IsServer, NoRoomForServer, ServerIs}
use Rattle.host_commands.proofs.listening.serve_one.Goals as goal

pub returns-in-Ok-clause-made : goal.returns-in-Ok-clause-made
returns-in-Ok-clause-made g c =
    let o = g.S.System.outside c.args.system.now in
    let facts = g.G.Games.facts c.args.system.now in
    let l = c.args.task.now in
    let common = common_with c.args.served.config c.args.served.tables in
    let at = c.in-Ok.at in
    let stamp = c.args.served.stamp in
    let made = subst (λ (most : ℕ). AddsSome o c.args.timeline.now c.open_and_serve.new.timeline (Performs (OpensAndAnswers o facts l most stamp c.args.port.now at.server) c.open_and_serve.result)) c.in-Ok.ensures.most c.open_and_serve.ensures.made in
    goes_on_so o _ _ (IsServer common c.args.served.games) (OpensAndAnswers o facts l common.together stamp c.args.port.now) at.server c.open_and_serve.result (ServerIs at.server c.in-Ok.ensures.server refl refl) made

pub returns-in-Err-clause-made : goal.returns-in-Err-clause-made
returns-in-Err-clause-made g c =
    let common = common_with c.args.served.config c.args.served.tables in
    is_refused_so (g.S.System.outside c.args.system.now) _ _ (IsServer common c.args.served.games) _ refused_memory c.print_refusal.result (NoRoomForServer refl refl) c.print_refusal.ensures.made
