use Rattle.std.proofs.Common.{false, true}
use Rattle.std.specs.Prelude.{codes}
use Rattle.std.proofs.lemmas.Result.{on_ok_weaker}
use Rattle.fen_text.specs.Coordinates.{move_text}
use Rattle.json.specs.Json.{member, string}
use Rattle.json_lines.specs.Api.{told_members}
use Rattle.json_lines.specs.Inside.Members.{open_tokens}
use Rattle.json_lines.proofs.Pieces.{writes_more}
use Rattle.json_lines.proofs.api.put_api_after.Goals as goal

pub returns : goal.returns
returns g c =
    let t = c.args.played.now.told in
    let more = told_members c.args.form c.args.played.now in
    on_ok_weaker c.put_told_in.result
    (λ h. writes_more false (codes "uci") (string (move_text t.played)) (open_tokens (member (codes "san") (string t.san.bytes) more)) _ _ _ c.in_ok-put_uci.ensures (writes_more true (codes "san") (string t.san.bytes) (open_tokens more) _ _ _ c.in_ok-put_san.ensures h))
    c.put_told_in.ensures
