use Rattle.std.proofs.Common.{refl}
use Rattle.answer_parts.specs.Lines.{words_of}
use Rattle.answer_parts.specs.Reply.{IsText}
use Rattle.move_msg.specs.TextLines.{ended}
use Rattle.table_commands.specs.Probes.{TellsKnown}
use Rattle.table_commands.proofs.FolderLineLaws.{is_done}
use Rattle.table_commands.proofs.LineLaws.{line_told, same_tables}
use Rattle.table_commands.proofs.probes.SoonProberLineAnswerer.answer_line.Goals as goal

pub returns-clause-made : goal.returns-clause-made
returns-clause-made g c =
    let tables = c.args.self.now.set.tables in
    let words = words_of c.known_line-told.result.0 in
    line_told (g.S.System.outside c.args.system.now) (TellsKnown tables) IsText c.args.line.now words (ended words) c.known_line-told.result.1 _ c.write_answer.result _ _ refl (is_done c.known_line-told.result.1) c.known_line-told.ensures.told c.write_answer.ensures.made

pub returns-clause-same : goal.returns-clause-same
returns-clause-same g c = same_tables TellsKnown IsText _ _ c.known_line-told.ensures.unchanged
