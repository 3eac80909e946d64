use Rattle.clap.specs.Words.{first_value, found_of}
use Rattle.command_line.specs.Misuses.{fault_words}
use Rattle.command_line.proofs.AuditGameLaws.{of_files}
use Rattle.command_line.proofs.commands.audit_of_files.Goals as goal

pub returns-in-Err : goal.returns-in-Err
returns-in-Err c = of_files (first_value (found_of c.args.matches.now)) (fault_words c.in-Err.fault) c.requires c.in-Err.ensures.err
