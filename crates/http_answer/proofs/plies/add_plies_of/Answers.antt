use Rattle.std.proofs.lemmas.Result.{on_ok_weaker}
use Rattle.http_answer.proofs.OpenReadLaws.{reads_then}
use Rattle.http_answer.proofs.PlyLaws.{all_plies}
use Rattle.http_answer.specs.Files.{files_of}
use Rattle.http_answer.proofs.plies.add_plies_of.Goals as goal

pub returns-clause-added : goal.returns-clause-added
returns-clause-added g c = on_ok_weaker c.add_moves.result (λ h. all_plies (files_of g.S.System.outside) _ _ _ _ _ _ _ c.in_ok-add_start.ensures.same c.in_ok-add_start.ensures.added (rw c.moves_of.ensures at h)) c.add_moves.ensures.added

pub returns-clause-made : goal.returns-clause-made
returns-clause-made g c = reads_then g.S.System.outside _ _ _ _ _ c.in_ok-add_start.ensures.same c.in_ok-add_start.ensures.made c.add_moves.ensures.made
