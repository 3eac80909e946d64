use Rattle.std.proofs.Common.{◌≡◌, ◌∙◌, ◌++◌, ◌∷◌, [], ap, sym, take}
use Rattle.std.proofs.lemmas.List.{take_more}
use Rattle.board_core.specs.declared.moves.Move.{Move}
use Rattle.pgn_teller.proofs.ObjectLaws.{moves_more, no_moves}
use Rattle.pgn_teller.proofs.game_object.moves_text.Goals as goal

pub loop-m-init : goal.loop-m-init
loop-m-init c = no_moves _ c.new-text.ensures.bytes

pub loop-m-preserved : goal.loop-m-preserved
loop-m-preserved c =
    let ms = c.args.moves.now in
    let i = c.loop-m.m-index in
    let m = c.m-item.result in
    moves_more ms i m _ _ (take_more ms i m c.loop-m-test.true ∙ ap (λ (x : Move). take i ms ++ x ∷ []) (sym c.m-item.is)) c.loop-m.invariant c.in_ok-add_move.ensures
