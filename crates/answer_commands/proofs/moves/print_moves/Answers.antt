use Rattle.answer_commands.specs.Inside.Answering.{PrintsAnswered}
use Rattle.answer_commands.specs.Moves.{PrintsMoves}
use Rattle.answer_commands.proofs.MoveLaws.{prints_moves}
use Rattle.answer_parts.proofs.PrintLaws.{does_so}
use Rattle.answer_commands.proofs.moves.print_moves.Goals as goal

pub returns-clause-made : goal.returns-clause-made
returns-clause-made g c =
    does_so (g.S.System.outside c.args.system.now) _ _ (PrintsAnswered c.answer_moves.result) (PrintsMoves c.args.task.now) c.print_answered.result (prints_moves c.args.task.now c.answer_moves.result c.answer_moves.ensures) c.print_answered.ensures.made
