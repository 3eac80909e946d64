use Rattle.std.proofs.Common.{ap}
use Rattle.std.specs.Prelude.{Err, option_map}
use Rattle.table_commands.proofs.PgnLaws.{file_opened_or_not, input_opened, input_unopened}
use Rattle.table_commands.proofs.pgn.open_lines.Goals as goal

pub returns-in-Some : goal.returns-in-Some
returns-in-Some g c =
    file_opened_or_not (g.S.System.outside c.args.system.now) _ _ _ c.in-Some.path.now c.file_lines.result (ap (option_map (λ s. s.now)) c.in-Some.is) c.file_lines.ensures.held c.file_lines.ensures.known c.file_lines.ensures.broken c.file_lines.ensures.cause c.file_lines.ensures.made

pub returns-in-Ok : goal.returns-in-Ok
returns-in-Ok g c =
    input_opened (g.S.System.outside c.args.system.now) _ _ _ c.in-Ok.lines (ap (option_map (λ s. s.now)) c.in-None.is) c.in-Ok.ensures.given c.in-Ok.ensures.known c.in-Ok.ensures.cause c.in-Ok.ensures.made

pub returns-in-Err : goal.returns-in-Err
returns-in-Err g c = input_unopened (g.S.System.outside c.args.system.now) _ _ _ (ap (option_map (λ s. s.now)) c.in-None.is) c.in-Err.ensures.memory c.in-Err.ensures.made
