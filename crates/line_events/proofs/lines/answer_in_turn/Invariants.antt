use Rattle.line_events.proofs.LineLaws.{HasTold}
use Rattle.line_events.specs.LineEvents.{AnswersNoMore}
use Rattle.line_teller.specs.ToldLines.{stops_by}
use Rattle.system_io.specs.declared.reading.ReadFault.{ReadFault}
use Rattle.timeline.specs.Outsides.{AddsSome}
use Rattle.line_events.proofs.lines.answer_in_turn.Given as goal

abbrev pub invariant-loop-before : goal.invariant-loop-before
invariant-loop-before g l = record {
  told : AddsSome (g.S.System.outside l.system) l.fn.timeline l.timeline (HasTold (g.A.LineAnswerer.answering l.fn.answerer) l.progress (g.A.LineAnswerer.known l.fn.answerer) (g.A.LineAnswerer.known l.answerer) ((g.S.System.outside l.system).lines l.fn.lines).left ((g.S.System.outside l.system).lines l.lines).left l.before l.done);
  stops : (fault : ReadFault) → stops_by ((g.S.System.outside l.system).lines l.lines) fault → stops_by ((g.S.System.outside l.system).lines l.fn.lines) fault;
  same : AnswersNoMore (g.A.LineAnswerer.answering l.fn.answerer) (g.A.LineAnswerer.answering l.answerer);
  from : g.A.LineAnswerer.reads_from l.answerer l.system;
}
