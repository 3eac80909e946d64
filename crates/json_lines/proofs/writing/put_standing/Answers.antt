use Rattle.std.proofs.Common.{ap, refl, subst, true}
use Rattle.std.specs.Prelude.{OnOk}
use Rattle.json.specs.Json.{boolean, no_members}
use Rattle.json_lines.specs.Inside.Members.{Writes, open_tokens}
use Rattle.json_lines.specs.Objects.{error_members, followed_by}
use Rattle.json_lines.proofs.Whole.{one_same}
use Rattle.json_lines.proofs.writing.put_standing.Goals as goal

pub returns : goal.returns
returns g c =
    let same =
    one_same _ _ _ _ _ c.member.ensures (ap boolean c.in_check.ensures.computed)
    (one_same _ _ _ no_members no_members c.member-2.ensures (ap boolean c.has_insufficient_material.ensures) refl) in
    subst (λ ms. OnOk c.put_told.result (Writes true (open_tokens (followed_by ms (error_members c.args.told.now.probed))) (g.W.Write.contents c.args.out.now) (g.W.Write.contents c.put_told.new.out))) same c.put_told.ensures
