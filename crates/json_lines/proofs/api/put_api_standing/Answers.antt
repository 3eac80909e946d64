use Rattle.std.proofs.Common.{◌∙◌, ap, refl, subst, true}
use Rattle.std.specs.Prelude.{OnOk}
use Rattle.judge_core.specs.Categories.{category_name, category_of}
use Rattle.json.specs.Json.{boolean, no_members, string}
use Rattle.json_lines.specs.Inside.Members.{Writes, open_tokens}
use Rattle.json_lines.specs.Objects.{error_members, followed_by}
use Rattle.json_lines.proofs.Whole.{one_same}
use Rattle.json_lines.proofs.api.put_api_standing.Goals as goal

pub returns : goal.returns
returns g c =
    let t = c.args.played.now.told in
    let precise = c.args.played.now.precise in
    let category = c.of-category.ensures ∙ ap (λ k. category_of t.state k t.probed precise) c.halfmove.ensures in
    let same =
    one_same _ _ _ _ _ c.member.ensures (ap boolean c.zeroes_clock.ensures)
    (one_same _ _ _ _ _ c.member-2.ensures (ap string (c.name.ensures ∙ ap category_name category))
    (one_same _ _ _ _ _ c.member-3.ensures c.number_or_null.ensures
    (one_same _ _ _ _ _ c.member-4.ensures c.precise_or_null.ensures
    (one_same _ _ _ _ _ c.member-5.ensures refl
    (one_same _ _ _ _ _ c.member-6.ensures (ap boolean c.is_checkmate.ensures)
    (one_same _ _ _ _ _ c.member-7.ensures (ap boolean c.is_stalemate.ensures)
    (one_same _ _ _ _ _ c.member-8.ensures refl
    (one_same _ _ _ _ _ c.member-9.ensures refl
    (one_same _ _ _ _ _ c.member-10.ensures (ap boolean c.has_insufficient_material.ensures)
    (one_same _ _ _ no_members no_members c.member-11.ensures c.number_or_null-2.ensures refl)))))))))) in
    subst (λ ms. OnOk c.put_told.result (Writes true (open_tokens (followed_by ms (error_members t.probed))) (g.W.Write.contents c.args.out.now) (g.W.Write.contents c.put_told.new.out))) same c.put_told.ensures
