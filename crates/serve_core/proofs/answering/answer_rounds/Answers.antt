use Rattle.serve_core.specs.Answering.{AnswersOne}
use Rattle.serve_core.proofs.Replying.{next_round, no_rounds}
use Rattle.serve_core.proofs.answering.answer_rounds.Goals as goal

pub loop-init : goal.loop-init
loop-init g c = no_rounds g.L.Listener.streams g.L.Reader.Read.remaining g.L.Writer.Write.contents (AnswersOne g.S.System.outside g.T.Times.says) c.args.service.now c.args.server.now

pub loop-preserved : goal.loop-preserved
loop-preserved g c =
    next_round g.L.Listener.streams g.L.Reader.Read.remaining g.L.Writer.Write.contents (AnswersOne g.S.System.outside g.T.Times.says) c.args.service.now c.loop.service c.round.new.service
    c.args.server.now c.loop.server c.round.new.self c.loop.invariant c.round.ensures.served

pub returns-in-Err : goal.returns-in-Err
returns-in-Err g c =
    next_round g.L.Listener.streams g.L.Reader.Read.remaining g.L.Writer.Write.contents (AnswersOne g.S.System.outside g.T.Times.says) c.args.service.now c.loop.service c.round.new.service
    c.args.server.now c.loop.server c.round.new.self c.loop.invariant c.round.ensures.served
