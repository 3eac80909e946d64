use Rattle.std.proofs.Common.{◌∙◌, ap, refl, subst, true}
use Rattle.std.specs.Prelude.{OnOk}
use Rattle.json.specs.Json.{boolean, no_members, string}
use Rattle.json_lines.specs.Inside.Members.{Writes, open_tokens}
use Rattle.json_lines.proofs.Whole.{one_same}
use Rattle.json_lines.proofs.writing.put_values.Goals as goal

pub returns : goal.returns
returns g c =
    let same =
    one_same _ _ _ _ _ c.member.ensures (ap string (c.as_str.ensures.value ∙ c.write-fen.ensures.text))
    (one_same _ _ _ _ _ c.member-2.ensures c.number_or_null.ensures
    (one_same _ _ _ _ _ c.member-3.ensures c.number_or_null-2.ensures
    (one_same _ _ _ _ _ c.member-4.ensures (ap string c.category_of.ensures)
    (one_same _ _ _ _ _ c.member-5.ensures (ap boolean c.zeroes_clock.ensures)
    (one_same _ _ _ _ _ c.member-6.ensures (ap boolean c.is_checkmate.ensures)
    (one_same _ _ _ no_members no_members c.member-7.ensures (ap boolean c.is_stalemate.ensures) refl)))))) in
    subst (λ ms. OnOk c.put_members.result (Writes true (open_tokens ms) (g.W.Write.contents c.args.out.now) (g.W.Write.contents c.put_members.new.out))) same c.put_members.ensures
