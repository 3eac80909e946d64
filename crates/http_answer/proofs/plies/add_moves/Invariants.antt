use Rattle.std.proofs.Common.{◌≡◌, length}
use Rattle.http_answer.proofs.PlyLaws.{SoFar}
use Rattle.http_answer.specs.Files.{files_of}
use Rattle.http_answer.specs.Reads.{ReadsTableFiles}
use Rattle.http_answer.proofs.plies.add_moves.Given as goal

abbrev pub invariant-loop-m : goal.invariant-loop-m
invariant-loop-m g l = record {
  so_far : SoFar ((files_of g.S.System.outside) l.fn.answerer.disk) l.fn.answerer.folder l.fn.start l.fn.moves l.fn.text l.position l.rest l.text;
  same : l.answerer ≡ l.fn.answerer;
  made : ReadsTableFiles g.S.System.outside l.fn.answerer l.fn.timeline l.timeline;
}

abbrev pub decreases-loop-m : goal.decreases-loop-m
decreases-loop-m g l = length l.rest
