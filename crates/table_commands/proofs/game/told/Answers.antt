use Rattle.std.proofs.Common.{length, ap}
use Rattle.move_msg.specs.TextLines.{ended}
use Rattle.judge_core.specs.Words.{outcome_words}
use Rattle.answer_parts.specs.Reply.{status_if}
use Rattle.table_commands.proofs.game.told.Goals as goal

pub returns : goal.returns
returns c = ap (λ legal. record { text = ended (outcome_words c.args.outcome (length c.args.moves.now)); status = status_if legal }) c.are_all_legal.ensures
