use Rattle.std.proofs.Common.{ap, refl}
use Rattle.answer_parts.specs.Asked.{reply_of}
use Rattle.answer_parts.specs.Reply.{IsText}
use Rattle.json_lines.specs.Objects.{json_text, line_json}
use Rattle.json_lines.specs.Told.{is_done}
use Rattle.judge_core.specs.Tables.{Holding}
use Rattle.line_events.proofs.WritingLaws.{no_room_at_once}
use Rattle.table_commands.specs.JsonAnswers.{TellsJson}
use Rattle.table_commands.proofs.JsonLaws.{has_text}
use Rattle.table_commands.proofs.LineLaws.{line_told, object_done, object_text, same_tables}
use Rattle.table_commands.proofs.json_answers.JsonAnswererLineAnswerer.answer_line.Goals as goal

pub returns-in-Ok-answer_of-clause-made : goal.returns-in-Ok-answer_of-clause-made
returns-in-Ok-answer_of-clause-made g c =
    let t = c.args.self.now in
    let o = g.S.System.outside c.args.system.now in
    let object = c.in-Ok.told in
    let reply = reply_of c.in-Ok-answer_of.answer in
    let is = c.in-Ok-answer_of.ensures.is in
    line_told o (TellsJson t.ask t.with_moves t.set.tables) IsText c.args.line.now (json_text (line_json object)) reply.text (is_done object) _ c.write_answer.result _ _ (object_text reply object is) (object_done reply object is) (object, c.in-Ok.ensures.told, refl) c.write_answer.ensures.made

pub returns-clause-made : goal.returns-clause-made
returns-clause-made g c =
    let t = c.args.self.now in
    let o = g.S.System.outside c.args.system.now in
    no_room_at_once o (TellsJson t.ask t.with_moves t.set.tables) IsText _ c.args.line.now (has_text c.args.line.now t.ask t.with_moves t.set.tables c.in-Ok.told c.in-Ok.ensures.told c.in-Err-answer_of.ensures.memory)

pub returns-in-Err-clause-made : goal.returns-in-Err-clause-made
returns-in-Err-clause-made g c =
    let t = c.args.self.now in
    let o = g.S.System.outside c.args.system.now in
    no_room_at_once o (TellsJson t.ask t.with_moves t.set.tables) IsText _ c.args.line.now c.in-Err.ensures.memory

pub returns-in-Ok-answer_of-clause-same : goal.returns-in-Ok-answer_of-clause-same
returns-in-Ok-answer_of-clause-same g c = same_tables (TellsJson c.args.self.now.ask c.args.self.now.with_moves) IsText _ _ (ap (λ (h : Holding). h.tables) c.in-Ok.ensures.unchanged)

pub returns-clause-same : goal.returns-clause-same
returns-clause-same g c = same_tables (TellsJson c.args.self.now.ask c.args.self.now.with_moves) IsText _ _ (ap (λ (h : Holding). h.tables) c.in-Ok.ensures.unchanged)

pub returns-in-Err-clause-same : goal.returns-in-Err-clause-same
returns-in-Err-clause-same g c = same_tables (TellsJson c.args.self.now.ask c.args.self.now.with_moves) IsText _ _ (ap (λ (h : Holding). h.tables) c.in-Err.ensures.unchanged)
