use Rattle.std.proofs.Common.{◌∷◌, []}
use Rattle.std.proofs.lemmas.Result.{on_ok_weaker}
use Rattle.json.specs.Token.{key}
use Rattle.json_lines.proofs.Pieces.{writes_both}
use Rattle.json_lines.proofs.members.put_member.Goals as goal

pub returns-in-Ok : goal.returns-in-Ok
returns-in-Ok g c = on_ok_weaker c.put_value.result (λ h. writes_both c.args.later (key c.args.member.now.name.now ∷ []) _ _ _ _ c.in-Ok.ensures h) c.put_value.ensures
