use Rattle.std.proofs.Common.{◌∷◌, ◌∙◌, ap, refl, subst, false}
use Rattle.std.specs.Prelude.{OnOk}
use Rattle.json.specs.Json.{no_members}
use Rattle.json.specs.Token.{begin_object}
use Rattle.json_lines.specs.Api.{side_or_null}
use Rattle.json_lines.specs.Inside.Members.{Writes, open_tokens}
use Rattle.json_lines.specs.Objects.{error_members, followed_by}
use Rattle.json_lines.proofs.Whole.{one_same}
use Rattle.json_lines.proofs.api.put_line_facts.Goals as goal

pub returns : goal.returns
returns g c =
    let probed = c.args.position.now.told.columns.probed in
    let same =
    one_same _ _ _ _ _ c.member.ensures c.number_or_null.ensures
    (one_same _ _ _ _ _ c.member-2.ensures c.precise_or_null.ensures
    (one_same _ _ _ no_members no_members c.member-3.ensures (c.side_or_null.ensures ∙ ap side_or_null c.winner.ensures) refl)) in
    subst (λ ms. OnOk c.put_facts.result (Writes false (begin_object ∷ open_tokens (followed_by ms (error_members probed))) (g.W.Write.contents c.args.out.now) (g.W.Write.contents c.put_facts.new.out))) same c.put_facts.ensures
