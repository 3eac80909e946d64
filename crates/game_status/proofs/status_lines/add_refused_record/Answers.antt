use Rattle.std.proofs.Common.{◌++◌, codes}
use Rattle.move_msg.specs.Records.{record_fault_name}
use Rattle.game_status.proofs.LineLaws.{added_two}
use Rattle.game_status.proofs.status_lines.add_refused_record.Goals as goal

pub returns-clause-is : goal.returns-clause-is
returns-clause-is c = added_two c.args.line.now c.add.new.self c.add-2.new.self (codes "refused ") c.record_words.result.now (codes "record " ++ record_fault_name c.args.fault) c.add.ensures.is c.add-2.ensures.is c.record_words.ensures.is
