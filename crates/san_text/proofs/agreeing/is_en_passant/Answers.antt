use Rattle.std.proofs.Common.{sym, ◌∙◌}
use Rattle.san_text.proofs.LegalMoves.{passant_empty, passant_taken}
use Rattle.san_text.proofs.agreeing.is_en_passant.Goals as goal

pub returns-then-is_some : goal.returns-then-is_some
returns-then-is_some c = passant_taken c.args.position.now c.args.m.now c.piece_at.result c.piece_at.ensures (sym c.is_some.ensures ∙ c.if-is_some.true)

pub returns : goal.returns
returns c = passant_empty c.args.position.now c.args.m.now c.leaves_file.result c.piece_at.result c.piece_at.ensures (sym c.is_some.ensures ∙ c.if-is_some.false) c.requires c.leaves_file.ensures
