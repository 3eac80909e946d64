use Rattle.std.proofs.Common.{◌∷◌, ◌∙◌, ap, refl, subst, false}
use Rattle.std.specs.Prelude.{OnOk}
use Rattle.judge_core.specs.Categories.{category_name, category_of}
use Rattle.judge_core.specs.Root.{is_checkmate}
use Rattle.json.specs.Json.{boolean, no_members, string}
use Rattle.json.specs.Token.{begin_object}
use Rattle.json_lines.specs.Inside.Members.{Writes, open_tokens}
use Rattle.json_lines.specs.Objects.{error_members, followed_by, is_stalemate}
use Rattle.json_lines.proofs.Whole.{one_same}
use Rattle.json_lines.proofs.api.put_api_position.Goals as goal

pub returns : goal.returns
returns g c =
    let t = c.args.position.now in
    let p = t.told.position in
    let probed = t.told.columns.probed in
    let state = c.of-state.ensures in
    let category = c.of-category.ensures ∙ ap (λ k. category_of c.of-state.result k probed t.precise) c.halfmove.ensures ∙ ap (λ s. category_of s p.halfmove probed t.precise) state in
    let same =
    one_same _ _ _ _ _ c.member.ensures (ap string (c.name.ensures ∙ ap category_name category))
    (one_same _ _ _ _ _ c.member-2.ensures c.number_or_null.ensures
    (one_same _ _ _ _ _ c.member-3.ensures c.precise_or_null.ensures
    (one_same _ _ _ _ _ c.member-4.ensures refl
    (one_same _ _ _ _ _ c.member-5.ensures (ap boolean (c.is_checkmate.ensures ∙ ap is_checkmate state))
    (one_same _ _ _ _ _ c.member-6.ensures (ap boolean (c.is_stalemate.ensures ∙ ap is_stalemate state))
    (one_same _ _ _ _ _ c.member-7.ensures refl
    (one_same _ _ _ _ _ c.member-8.ensures refl
    (one_same _ _ _ _ _ c.member-9.ensures (ap boolean c.has_insufficient_material.ensures)
    (one_same _ _ _ _ _ c.member-10.ensures c.number_or_null-2.ensures
    (one_same _ _ _ no_members no_members c.member-11.ensures c.verdict_or_null.ensures refl)))))))))) in
    subst (λ ms. OnOk c.put_facts.result (Writes false (begin_object ∷ open_tokens (followed_by ms (error_members probed))) (g.W.Write.contents c.args.out.now) (g.W.Write.contents c.put_facts.new.out))) same c.put_facts.ensures
