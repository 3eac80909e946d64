use Rattle.std.proofs.Common.{ℕ, refl, subst}
use Rattle.arbiter_server.specs.Games.{common_with}
use Rattle.line_teller.specs.ToldLines.{refused_memory}
use Rattle.host_commands.proofs.OutlivingLaws.{goes_on_so, is_refused_so}
use Rattle.host_commands.specs.Hosts.{AnswersLogged}
use Rattle.host_commands.specs.Inside.HostParts.{HostDoes}
use Rattle.host_commands.specs.ServerRuns.{IsServer, NoRoomForServer, ServerIs}
use Rattle.host_commands.proofs.hosting.serve_games.Goals as goal

pub returns-in_default-clause-made : goal.returns-in_default-clause-made
returns-in_default-clause-made g c =
    let o = g.S.System.outside c.args.system.now in
    let common = common_with c.args.served.config c.args.served.tables in
    is_refused_so o c.args.task.now _ _ (IsServer common c.args.served.games) (AnswersLogged o (g.G.Games.facts c.args.system.now) c.args.task.now common.together (o.port c.args.port.now).to) refused_memory c.print_refusal.result (NoRoomForServer refl refl) c.print_refusal.ensures.made

pub returns-in-Ok-open-clause-made : goal.returns-in-Ok-open-clause-made
returns-in-Ok-open-clause-made g c =
    let o = g.S.System.outside c.args.system.now in
    let facts = g.G.Games.facts c.args.system.now in
    let h = c.args.task.now in
    let common = common_with c.args.served.config c.args.served.tables in
    let at = c.in-Ok-open.at in
    let to = (o.port c.args.port.now).to in
    let made = subst (λ (most : ℕ). HostDoes o h (AnswersLogged o facts h most to at.server) c.args.timeline.now c.serve_logged.new.timeline c.serve_logged.result) c.in-Ok-open.ensures.most c.serve_logged.ensures.made in
    goes_on_so o h _ _ (IsServer common c.args.served.games) (AnswersLogged o facts h common.together to) at.server c.serve_logged.result (ServerIs at.server c.in-Ok-open.ensures.server refl refl) made

pub returns-in-Err-clause-made : goal.returns-in-Err-clause-made
returns-in-Err-clause-made g c =
    let o = g.S.System.outside c.args.system.now in
    let common = common_with c.args.served.config c.args.served.tables in
    is_refused_so o c.args.task.now _ _ (IsServer common c.args.served.games) (AnswersLogged o (g.G.Games.facts c.args.system.now) c.args.task.now common.together (o.port c.args.port.now).to) refused_memory c.print_refusal-in-Err.result (NoRoomForServer refl refl) c.print_refusal-in-Err.ensures.made
