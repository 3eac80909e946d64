use Rattle.std.proofs.Common.{refl, subst, true}
use Rattle.std.specs.Prelude.{OnOk}
use Rattle.json.specs.Json.{no_members}
use Rattle.json_lines.specs.Inside.Members.{Writes, open_tokens}
use Rattle.json_lines.proofs.Whole.{one_same}
use Rattle.json_lines.proofs.api.put_distance.Goals as goal

pub returns : goal.returns
returns g c =
    let same =
    one_same _ _ _ _ _ c.member.ensures c.number_or_null.ensures
    (one_same _ _ _ no_members no_members c.member-2.ensures c.precise_or_null.ensures refl) in
    subst (λ ms. OnOk c.put_members.result (Writes true (open_tokens ms) (g.W.Write.contents c.args.out.now) (g.W.Write.contents c.put_members.new.out))) same c.put_members.ensures
