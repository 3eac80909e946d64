use Rattle.std.proofs.Common.{refl, subst}
use Rattle.move_msg.specs.GameTexts.{IsBadWordAt, words_in}
use Rattle.table_commands.specs.Games.{NoMove}
use Rattle.table_commands.proofs.games.GameJudge.answer_from.Goals as goal

pub returns-in-Err-clause-told : goal.returns-in-Err-clause-told
returns-in-Err-clause-told c = NoMove (c.args.start.now, c.requires.spelled, c.requires.position) c.in-Err.place (subst (λ t. IsBadWordAt (words_in t) c.in-Err.place) c.moves_in.ensures (rw c.in-Err.is at c.in_ok-moves.ensures.err)) refl
