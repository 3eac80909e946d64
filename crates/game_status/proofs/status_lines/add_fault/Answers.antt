use Rattle.std.proofs.Common.{codes}
use Rattle.game_status.specs.Entries.{fault_words}
use Rattle.game_status.proofs.LineLaws.{added_two}
use Rattle.game_status.proofs.status_lines.add_fault.Goals as goal

pub returns : goal.returns
returns c = added_two c.args.line.now c.add.new.self c.add-2.new.self (codes "refused ") c.fault_words.result.now (fault_words c.args.fault) c.add.ensures.is c.add-2.ensures.is c.fault_words.ensures.is
