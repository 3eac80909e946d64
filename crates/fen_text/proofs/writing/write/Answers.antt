use Rattle.std.proofs.Common.{◌≡◌, List, ℕ, ap, refl, sym, subst, ◌∙◌}
use Rattle.fen_text.specs.Fen.{SpellsPosition}
use Rattle.fen_text.specs.Written.{fen_of}
use Rattle.fen_text.proofs.WrittenLaws.{halves_joined, grown, position_spelled}
use Rattle.fen_text.proofs.writing.write.Goals as goal

written : (c : goal.After-push_counters) → c.push_counters.new.out.bytes ≡ fen_of c.args.position.now
unfolding fen_of
written c =
    let board = grown _ _ _ _ _ c.push_board.ensures.text c.new-out.ensures refl in
    let space = grown _ _ _ _ _ c.push_str.ensures.bytes board refl in
    let all = grown _ _ _ _ _ c.push_counters.ensures.text space refl in
    all ∙ halves_joined _ _ _ _ _ _ ∙ ap fen_of c.parts-parts.ensures.value

pub returns-clause-text : goal.returns-clause-text
returns-clause-text c = written c

pub returns-clause-spells : goal.returns-clause-spells
returns-clause-spells c = subst (λ (t : List ℕ). SpellsPosition t c.args.position.now) (sym (written c)) (position_spelled c.args.position.now c.parts-parts.ensures.position)
