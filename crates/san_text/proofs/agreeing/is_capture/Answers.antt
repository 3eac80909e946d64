use Rattle.std.proofs.Common.{sym, ◌∙◌}
use Rattle.san_text.proofs.LegalMoves.{capture_empty}
use Rattle.san_text.proofs.agreeing.is_capture.Goals as goal

pub returns : goal.returns
returns c = capture_empty c.args.position.now c.args.m.now c.leaves_file.result c.piece_at.result c.piece_at.ensures (sym c.is_some.ensures ∙ c.if-is_some.false) c.requires c.leaves_file.ensures
