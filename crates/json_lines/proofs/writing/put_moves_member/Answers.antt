use Rattle.std.proofs.Common.{true, ◌∷◌, []}
use Rattle.std.proofs.lemmas.Result.{on_ok_weaker}
use Rattle.std.specs.Prelude.{codes}
use Rattle.json.specs.Token.{key}
use Rattle.json_lines.proofs.Pieces.{writes_both}
use Rattle.json_lines.proofs.writing.put_moves_member.Goals as goal

pub returns-in-Ok : goal.returns-in-Ok
returns-in-Ok g c = on_ok_weaker c.put_list.result (λ h. writes_both true (key (codes "moves") ∷ []) _ _ _ _ c.in-Ok.ensures h) c.put_list.ensures
