use Rattle.std.proofs.Common.{true, ◌∷◌, [], subst, List, ℕ}
use Rattle.std.specs.Prelude.{OnOk}
use Rattle.std.proofs.lemmas.Result.{on_ok_weaker}
use Rattle.json.specs.Json.{array}
use Rattle.json.specs.Token.{key}
use Rattle.json.specs.Tree.{json_tokens}
use Rattle.json_lines.specs.Api.{api_move_json}
use Rattle.json_lines.specs.Inside.Members.{Writes}
use Rattle.json_lines.specs.Objects.{moves_items}
use Rattle.json_lines.proofs.Pieces.{writes_both}
use Rattle.json_lines.proofs.api.put_list_member.Goals as goal

pub returns-in-Ok : goal.returns-in-Ok
returns-in-Ok g c =
    let list = array (moves_items (api_move_json c.args.form) c.args.moves.now) in
    let written = on_ok_weaker c.put_api_list.result (λ h. writes_both true (key c.list_name.result.now ∷ []) _ _ _ _ c.in-Ok.ensures h) c.put_api_list.ensures in
    subst (λ (name : List ℕ). OnOk c.put_api_list.result (Writes true (key name ∷ json_tokens list) (g.W.Write.contents c.args.out.now) (g.W.Write.contents c.put_api_list.new.out))) c.list_name.ensures written
