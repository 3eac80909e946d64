use Rattle.std.proofs.Common.{◌≡◌, ◌++◌, ◌∷◌, ◌+◌, [], ℕ, List, sym, ◌∙◌, ap, map, take}
use Rattle.std.proofs.lemmas.List.{map-append, take_more}
use Rattle.move_msg.specs.declared.manifest.Line.{Line}
use Rattle.move_msg.specs.Manifests.{entry_of, line_text, lines_text}
use Rattle.move_msg.proofs.ManifestLaws.{lines_more}
use Rattle.move_msg.proofs.manifest.manifest_write.Goals as goal

pub loop-line-preserved : goal.loop-line-preserved
loop-line-preserved c =
    let i = c.loop-line.line-index in
    let lines = c.args.lines.now in
    let entries : map entry_of (take (i + 1) lines) ≡ map entry_of (take i lines) ++ entry_of c.line-item.result ∷ [] =
    ap (map entry_of) (take_more lines i c.line-item.result c.loop-line-test.true ∙ ap (λ (x : Line). take i lines ++ x ∷ []) (sym c.line-item.is)) ∙ map-append entry_of (take i lines) (c.line-item.result ∷ []) in
    c.in_ok-push_line.ensures
    ∙ ap (λ (t : List ℕ). t ++ line_text (entry_of c.line-item.result)) c.loop-line.invariant
    ∙ sym (ap lines_text entries ∙ lines_more (map entry_of (take i lines)) (entry_of c.line-item.result))
