use Rattle.std.proofs.Common.{◌≡◌, ◌-◌}
use Rattle.http_answer.specs.Replies.{most_plies}
use Rattle.http_answer.proofs.BestPlay.{IsPlayedSoFar}
use Rattle.http_answer.specs.Files.{files_of}
use Rattle.http_answer.specs.Reads.{ReadsTableFiles}
use Rattle.http_answer.proofs.answerer.Answerer.plies_from.Given as goal

abbrev pub invariant-loop : goal.invariant-loop
invariant-loop g l = record {
  so_far : IsPlayedSoFar ((files_of g.S.System.outside) l.fn.self.disk) l.fn.self.folder (most_plies - l.counter) l.start l.position l.plies.items;
  same : l.self ≡ l.fn.self;
  made : ReadsTableFiles g.S.System.outside l.fn.self l.fn.timeline l.timeline;
}
