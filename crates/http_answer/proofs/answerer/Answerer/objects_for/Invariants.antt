use Rattle.std.proofs.Common.{◌≡◌, length}
use Rattle.move_msg.specs.TextLines.{lines_in}
use Rattle.http_answer.proofs.AnswerLaws.{AnsweredSoFar}
use Rattle.http_answer.specs.Files.{files_of}
use Rattle.http_answer.specs.Reads.{ReadsTableFiles}
use Rattle.http_answer.proofs.answerer.Answerer.objects_for.Given as goal

abbrev pub invariant-loop-line : goal.invariant-loop-line
invariant-loop-line g l = record {
  so_far : AnsweredSoFar ((files_of g.S.System.outside) l.fn.self.disk) l.fn.self.folder (lines_in l.fn.body) (lines_in l.rest) l.objects.items;
  same : l.self ≡ l.fn.self;
  made : ReadsTableFiles g.S.System.outside l.fn.self l.fn.timeline l.timeline;
}

abbrev pub decreases-loop-line : goal.decreases-loop-line
decreases-loop-line g l = length (lines_in l.rest)
