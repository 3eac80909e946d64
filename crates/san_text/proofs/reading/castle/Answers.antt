use Rattle.std.proofs.Common.{Ok, ap, sym, ◌∙◌}
use Rattle.board_core.specs.declared.moves.Move.{Move}
use Rattle.san_text.specs.Inside.Movers.{castling_move}
use Rattle.san_text.proofs.LegalMoves.{castles_by}
use Rattle.san_text.proofs.reading.castle.Goals as goal

pub returns-clause-only : goal.returns-clause-only
returns-clause-only c = λ m l e.
    ap (λ (x : Move). Ok x) (c.king_move-m.ensures ∙ ap (λ side. castling_move side c.args.wing) c.side.ensures ∙ sym (castles_by c.args.position.now m c.args.wing l e))
