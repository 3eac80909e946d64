use Rattle.std.proofs.Common.{ap, refl}
use Rattle.answer_parts.specs.Lines.{words_of}
use Rattle.judge_core.specs.Tables.{Holding}
use Rattle.line_events.proofs.WritingLaws.{no_room_at_once}
use Rattle.move_msg.specs.TextLines.{ended}
use Rattle.table_commands.specs.Games.{HasStartFen, TellsGameLine}
use Rattle.table_commands.proofs.FolderLineLaws.{is_done}
use Rattle.table_commands.proofs.LineLaws.{line_told, same_tables_by}
use Rattle.table_commands.proofs.games.GameJudgeLineAnswerer.answer_line.Goals as goal

pub returns-in-Ok-clause-made : goal.returns-in-Ok-clause-made
returns-in-Ok-clause-made g c =
    let p = c.args.self.now in
    let words = words_of c.in-Ok.told in
    line_told (g.S.System.outside c.args.system.now) (TellsGameLine p.delay p.set.tables) HasStartFen c.args.line.now words (ended words) c.in-Ok.done _ c.write_answer.result _ _ refl (is_done c.in-Ok.done) c.in-Ok.ensures.told c.write_answer.ensures.made

pub returns-in-Err-clause-made : goal.returns-in-Err-clause-made
returns-in-Err-clause-made g c =
    let p = c.args.self.now in
    no_room_at_once (g.S.System.outside c.args.system.now) (TellsGameLine p.delay p.set.tables) HasStartFen _ c.args.line.now c.in-Err.ensures.memory

pub returns-in-Ok-clause-same : goal.returns-in-Ok-clause-same
returns-in-Ok-clause-same g c = same_tables_by TellsGameLine HasStartFen _ _ _ _ c.in-Ok.ensures.delay (ap (λ (h : Holding). h.tables) c.in-Ok.ensures.set)

pub returns-in-Err-clause-same : goal.returns-in-Err-clause-same
returns-in-Err-clause-same g c = same_tables_by TellsGameLine HasStartFen _ _ _ _ c.in-Err.ensures.delay (ap (λ (h : Holding). h.tables) c.in-Err.ensures.set)
