use Rattle.std.proofs.Common.{sym, ◌∙◌, true}
use Rattle.judge_core.proofs.Captures.{no_square, forced, unforced}
use Rattle.judge_core.proofs.probing.is_forced.Goals as goal

pub returns-in-None : goal.returns-in-None
returns-in-None c = no_square _ (sym c.en_passant.ensures ∙ c.in-None.is)

pub returns-then-has_legal_move : goal.returns-then-has_legal_move
returns-then-has_legal_move c = forced _ true c.has_move_besides_en_passant.result (sym c.if-has_legal_move.true ∙ c.has_legal_move.ensures.computed) c.has_move_besides_en_passant.ensures.computed

pub returns-else-has_legal_move : goal.returns-else-has_legal_move
returns-else-has_legal_move c = c.if-has_legal_move.false ∙ unforced _ (sym c.if-has_legal_move.false ∙ c.has_legal_move.ensures.computed)
