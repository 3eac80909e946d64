use Rattle.std.proofs.Common.{◌∙◌, ap, refl, subst}
use Rattle.std.specs.Prelude.{OnOk}
use Rattle.std.specs.Io.KnownBytes.{Appends}
use Rattle.json.specs.Json.{no_members, object, string}
use Rattle.json_lines.specs.Objects.{json_text}
use Rattle.json_lines.proofs.Whole.{one_same}
use Rattle.pgn_teller.proofs.ObjectLaws.{file_text}
use Rattle.pgn_teller.proofs.game_object.put_refused.Goals as goal

pub returns : goal.returns
returns g c =
    let text = file_text _ _ c.args.refusal.now (c.as_str.ensures.value ∙ c.name_of-name.ensures) c.name.ensures in
    let same =
    one_same _ _ _ _ _ c.member.ensures refl
    (one_same _ _ _ _ _ c.member-2.ensures refl
    (one_same _ _ _ no_members no_members c.member-3.ensures (ap string text) refl)) in
    subst (λ ms. OnOk c.put_object.result (Appends (g.W.Write.contents c.args.out.now) (g.W.Write.contents c.put_object.new.out) (json_text (object ms)))) same c.put_object.ensures
