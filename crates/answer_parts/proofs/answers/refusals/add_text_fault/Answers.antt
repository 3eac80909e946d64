use Rattle.std.proofs.Common.{codes}
use Rattle.board_core.specs.Position.{fault_name}
use Rattle.game_status.proofs.LineLaws.{added_two}
use Rattle.answer_parts.proofs.answers.refusals.add_text_fault.Goals as goal

pub returns-in-BadPosition : goal.returns-in-BadPosition
returns-in-BadPosition c = rw c.in-BadPosition.is (added_two c.args.line.now c.add.new.self c.add-in-BadPosition.new.self (codes "BadPosition ") c.name.result.now (fault_name c.in-BadPosition.fault) c.add.ensures.is c.add-in-BadPosition.ensures.is c.name.ensures)
