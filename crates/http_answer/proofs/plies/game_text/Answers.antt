use Rattle.std.proofs.Common.{◌∙◌}
use Rattle.http_answer.proofs.PlyLaws.{written_text}
use Rattle.http_answer.proofs.plies.game_text.Goals as goal

pub returns-clause-text : goal.returns-clause-text
returns-clause-text g c = written_text _ _ _ _ _ _ _ _ (c.new-text.ensures.before ∙ c.new.ensures.items) c.new-text.ensures.tokens c.in_ok-add_game.ensures.added c.into_inner.ensures.items c.into_inner.ensures.reads_back
