use Rattle.http_loop.specs.Servers.{ServesCalls}
use Rattle.serve_core.specs.Answering.{AnswersOne}
use Rattle.serve_core.proofs.answering.answer_rounds.Given as goal

abbrev pub invariant-loop : goal.invariant-loop
invariant-loop g l =
    ServesCalls g.L.Listener.streams g.L.Reader.Read.remaining g.L.Writer.Write.contents (AnswersOne g.S.System.outside g.T.Times.says) l.fn.service l.service l.fn.server l.server
