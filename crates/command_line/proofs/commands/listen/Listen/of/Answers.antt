use Rattle.std.proofs.Common.{◌++◌}
use Rattle.clap.specs.Words.{first_value, found_of}
use Rattle.command_line.specs.Commands.Listen.{end_faults, term_faults}
use Rattle.command_line.specs.Misuses.{game_faults}
use Rattle.command_line.proofs.MisuseLaws.{first_behind, first_in_front}
use Rattle.command_line.proofs.commands.listen.Listen.of.Goals as goal

pub returns-in-Err-clause-err : goal.returns-in-Err-clause-err
returns-in-Err-clause-err c = first_in_front (first_value (found_of c.args.matches.now)) game_faults (end_faults ++ term_faults) _ c.in-Err.ensures.err

pub returns-in-Err-ends_in-clause-err : goal.returns-in-Err-ends_in-clause-err
returns-in-Err-ends_in-clause-err c =
    let value = first_value (found_of c.args.matches.now) in
    first_behind value game_faults (end_faults ++ term_faults) _ c.in-Ok.ensures.well (first_in_front value end_faults term_faults _ c.in-Err-ends_in.ensures.err)

pub returns-in-Err-terms_in-clause-err : goal.returns-in-Err-terms_in-clause-err
returns-in-Err-terms_in-clause-err c =
    let value = first_value (found_of c.args.matches.now) in
    first_behind value game_faults (end_faults ++ term_faults) _ c.in-Ok.ensures.well (first_behind value end_faults term_faults _ c.in-Ok-ends_in.ensures.well c.in-Err-terms_in.ensures.err)
