use Rattle.std.proofs.Common.{◌≡◌, ◌∙◌, ap, refl, subst}
use Rattle.std.specs.Prelude.{OnOk}
use Rattle.std.specs.Io.KnownBytes.{Appends}
use Rattle.json.specs.Json.{no_members, object, string}
use Rattle.json_lines.specs.Objects.{json_text}
use Rattle.json_lines.proofs.Whole.{one_same}
use Rattle.pgn_teller.specs.GameObjects.{finding_or_null}
use Rattle.pgn_teller.proofs.ObjectLaws.{as_told}
use Rattle.pgn_teller.proofs.game_object.put_game.Goals as goal

pub returns : goal.returns
returns g c =
    let t = c.requires in
    let same =
    one_same _ _ _ _ _ c.member.ensures refl
    (one_same _ _ _ _ _ c.member-2.ensures refl
    (one_same _ _ _ _ _ c.member-3.ensures (c.text_or_null.ensures ∙ as_told _ _ t.event)
    (one_same _ _ _ _ _ c.member-4.ensures (c.text_or_null-2.ensures ∙ as_told _ _ t.white)
    (one_same _ _ _ _ _ c.member-5.ensures (c.text_or_null-3.ensures ∙ as_told _ _ t.black)
    (one_same _ _ _ _ _ c.member-6.ensures (c.text_or_null-4.ensures ∙ as_told _ _ t.round)
    (one_same _ _ _ _ _ c.member-7.ensures (c.text_or_null-5.ensures ∙ as_told _ _ t.result)
    (one_same _ _ _ _ _ c.member-8.ensures (ap string (c.as_str.ensures.value ∙ t.start))
    (one_same _ _ _ _ _ c.member-9.ensures (ap string (c.as_str-2.ensures.value ∙ t.moves))
    (one_same _ _ _ _ _ c.member-10.ensures c.ply_or_null.ensures
    (one_same _ _ _ _ _ c.member-11.ensures c.ruled_verdict_or_null.ensures
    (one_same _ _ _ _ _ c.member-12.ensures c.result_or_null.ensures
    (one_same _ _ _ no_members no_members c.member-13.ensures (c.finding_or_null.ensures ∙ ap finding_or_null c.of.ensures) refl)))))))))))) in
    subst (λ ms. OnOk c.put_object.result (Appends (g.W.Write.contents c.args.out.now) (g.W.Write.contents c.put_object.new.out) (json_text (object ms)))) same c.put_object.ensures
