use Rattle.std.proofs.Common.{◌∙◌, [], ap, sym}
use Rattle.http_answer.proofs.Replied.{calls_answered}
use Rattle.http_loop.specs.Servers.{config_of, listener_of}
use Rattle.serve_core.proofs.Replying.{all_have_replies}
use Rattle.serve_core.proofs.CallLaws.{requests_added}
use Rattle.serve_core.proofs.SeenLaws.{chain_responds, ground_stays}
use Rattle.serve_core.proofs.answering.answer_requests.Goals as goal

pub returns-clause-replied : goal.returns-clause-replied
returns-clause-replied g c =
    let outside = g.S.System.outside in
    let says = g.T.Times.says in
    let rounds = c.answer_rounds-answered.ensures in
    let server = c.close.new.self in
    λ before h.
    all_have_replies outside says _ _ g.L.Reader.Read.remaining g.L.Writer.Write.contents (config_of server) rounds.0 before (g.L.Listener.streams (listener_of server)) server.peers
    (calls_answered outside says (λ v. v.tables) (λ v. v.games) rounds.0 _ _ (chain_responds outside says rounds.0 _ _ rounds.1))
    (c.close.ensures.closed rounds.0 before (rounds.2 [] before h)) (c.close.ensures.served rounds.0 before (rounds.2 [] before h))

pub returns-clause-made : goal.returns-clause-made
returns-clause-made g c =
    let outside = g.S.System.outside in
    let says = g.T.Times.says in
    let rounds = c.answer_rounds-answered.ensures in
    let stays = ground_stays outside says rounds.0 _ _ rounds.1 in
    requests_added outside says rounds.0 _ _ _ rounds.1 (c.timeline-1.given.1 (sym (c.end-timeline.ensures.same ∙ ap (λ x. x.timeline) stays)) ∙ c.end-timeline.ensures.now)
