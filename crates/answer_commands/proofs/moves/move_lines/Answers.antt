use Rattle.std.proofs.Common.{◌≡◌, ◌++◌, ◌∷◌, ◌+◌, [], ℕ, List, sym, subst, ◌∙◌, ap, map, take}
use Rattle.std.specs.List.{All}
use Rattle.std.proofs.lemmas.List.{map-append, take_more}
use Rattle.board_core.specs.declared.moves.Move.{Move}
use Rattle.board_core.specs.Moves.{IsLegal}
use Rattle.answer_commands.specs.Moves.{move_line}
use Rattle.answer_parts.specs.Lines.{words_of}
use Rattle.answer_commands.proofs.MoveLaws.{moves_listed}
use Rattle.answer_commands.proofs.moves.move_lines.Goals as goal

pub move_line-line-requires : goal.move_line-line-requires
move_line-line-requires c =
    let p = c.args.position.now in
    let sound = subst (All (IsLegal p)) (sym c.deref-m-items.ensures.value) c.in-Ok.ensures.legal.sound in
    subst (IsLegal p) (sym c.m-item.is) (sound c.loop-m.m-index c.m-item.result c.loop-m-test.true)

pub loop-m-preserved : goal.loop-m-preserved
loop-m-preserved c =
    let ms = c.deref-m-items.result.now in
    let i = c.loop-m.m-index in
    let m = c.m-item.result in
    let line : Move → List ℕ = move_line c.args.san c.args.position.now in
    let more : map line (take (i + 1) ms) ≡ map line (take i ms) ++ line m ∷ [] =
    ap (map line) (take_more ms i m c.loop-m-test.true ∙ ap (λ (x : Move). take i ms ++ x ∷ []) (sym c.m-item.is)) ∙ map-append line (take i ms) (m ∷ []) in
    ap (map words_of) c.in-Ok-add.ensures
    ∙ map-append words_of c.loop-m.lines.items _
    ∙ ap (λ (words : List ℕ). map words_of c.loop-m.lines.items ++ words ∷ []) c.move_line-line.ensures
    ∙ ap (λ (lines : List (List ℕ)). lines ++ line m ∷ []) c.loop-m.invariant
    ∙ sym more

pub returns : goal.returns
returns c =
    moves_listed c.args.san c.args.position.now c.deref-m-items.result.now c.loop-m.m-index (map words_of c.loop-m.lines.items) c.loop-m-test.false (c.deref-m-items.ensures.value ∙ c.in-Ok.ensures.computed) c.loop-m.invariant
