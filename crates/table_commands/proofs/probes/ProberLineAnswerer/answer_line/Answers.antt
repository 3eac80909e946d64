use Rattle.std.proofs.Common.{refl}
use Rattle.answer_parts.specs.Lines.{words_of}
use Rattle.answer_parts.specs.Reply.{IsText}
use Rattle.line_events.proofs.WritingLaws.{no_room_at_once}
use Rattle.move_msg.specs.TextLines.{ended}
use Rattle.table_commands.specs.Probes.{TellsLine}
use Rattle.table_commands.proofs.FolderLineLaws.{is_done}
use Rattle.table_commands.proofs.LineLaws.{line_told, same_tables}
use Rattle.table_commands.proofs.probes.ProberLineAnswerer.answer_line.Goals as goal

pub returns-in-Ok-clause-made : goal.returns-in-Ok-clause-made
returns-in-Ok-clause-made g c =
    let p = c.args.self.now in
    let words = words_of c.in-Ok.told in
    line_told (g.S.System.outside c.args.system.now) (TellsLine p.ask p.set.tables) IsText c.args.line.now words (ended words) c.in-Ok.done _ c.write_answer.result _ _ refl (is_done c.in-Ok.done) c.in-Ok.ensures.told c.write_answer.ensures.made

pub returns-in-Err-clause-made : goal.returns-in-Err-clause-made
returns-in-Err-clause-made g c =
    let p = c.args.self.now in
    no_room_at_once (g.S.System.outside c.args.system.now) (TellsLine p.ask p.set.tables) IsText _ c.args.line.now c.in-Err.ensures.memory

pub returns-in-Ok-clause-same : goal.returns-in-Ok-clause-same
returns-in-Ok-clause-same g c = same_tables (TellsLine c.args.self.now.ask) IsText _ _ c.in-Ok.ensures.unchanged

pub returns-in-Err-clause-same : goal.returns-in-Err-clause-same
returns-in-Err-clause-same g c = same_tables (TellsLine c.args.self.now.ask) IsText _ _ c.in-Err.ensures.unchanged
