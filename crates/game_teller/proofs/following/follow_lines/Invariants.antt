use Rattle.std.proofs.Common.{◌≡◌, None}
use Rattle.line_teller.specs.ToldLines.{stops_by}
use Rattle.system_io.specs.declared.reading.ReadFault.{ReadFault}
use Rattle.timeline.specs.Outsides.{AddsSome}
use Rattle.game_teller.specs.Judges.{IsLater}
use Rattle.game_teller.proofs.FollowLaws.{IsAtPly}
use Rattle.game_teller.proofs.following.follow_lines.Given as goal

abbrev pub invariant-loop-number : goal.invariant-loop-number
invariant-loop-number g l = record {
  so_far : AddsSome (g.S.System.outside l.system) l.fn.timeline l.timeline (IsAtPly l.game (g.J.PlyJudge.facts l.fn.judge) (g.J.PlyJudge.facts l.judge) ((g.S.System.outside l.system).lines l.fn.lines).left ((g.S.System.outside l.system).lines l.lines).left l.course None);
  ply : l.course.ply ≡ l.number;
  stops : (fault : ReadFault) → stops_by ((g.S.System.outside l.system).lines l.lines) fault → stops_by ((g.S.System.outside l.system).lines l.fn.lines) fault;
  later : IsLater (g.J.PlyJudge.facts l.fn.judge) (g.J.PlyJudge.facts l.judge);
  from : g.J.PlyJudge.reads_from l.judge l.system;
}
