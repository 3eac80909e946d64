use Rattle.std.proofs.Common.{◌==◌, refl, subst, sym}
use Rattle.answer_parts.specs.Asked.{reply_of}
use Rattle.answer_parts.specs.Reply.{IsText}
use Rattle.judge_core.specs.Tables.{Tables}
use Rattle.line_events.proofs.LineLaws.{same_answers}
use Rattle.line_events.proofs.WritingLaws.{no_room_at_once, told_at_once}
use Rattle.line_events.specs.LineEvents.{AnswersNoMore}
use Rattle.line_events.specs.Writing.{at_once}
use Rattle.table_commands.specs.Root.{TellsLine}
use Rattle.table_commands.proofs.root.RankerLineAnswerer.answer_line.Goals as goal

pub returns-in-Ok-clause-made : goal.returns-in-Ok-clause-made
returns-in-Ok-clause-made g c =
    let p = c.args.self.now in
    let reply = reply_of c.in-Ok.answer in
    told_at_once (g.S.System.outside c.args.system.now) (TellsLine p.ask p.set.tables) IsText _ _ c.args.line.now _ reply.text (reply.status == 0) c.write_with_empty_line.result (reply, c.in-Ok.ensures.told, refl) refl c.write_with_empty_line.ensures.made

pub returns-in-Err-clause-made : goal.returns-in-Err-clause-made
returns-in-Err-clause-made g c =
    let p = c.args.self.now in
    no_room_at_once (g.S.System.outside c.args.system.now) (TellsLine p.ask p.set.tables) IsText _ c.args.line.now c.in-Err.ensures.memory

pub returns-in-Ok-clause-same : goal.returns-in-Ok-clause-same
returns-in-Ok-clause-same g c =
    let p = c.args.self.now in
    subst (λ (t : Tables). AnswersNoMore (at_once (TellsLine p.ask p.set.tables) IsText) (at_once (TellsLine p.ask t) IsText)) (sym c.answer_line.ensures.unchanged) (same_answers (at_once (TellsLine p.ask p.set.tables) IsText))

pub returns-in-Err-clause-same : goal.returns-in-Err-clause-same
returns-in-Err-clause-same g c =
    let p = c.args.self.now in
    subst (λ (t : Tables). AnswersNoMore (at_once (TellsLine p.ask p.set.tables) IsText) (at_once (TellsLine p.ask t) IsText)) (sym c.answer_line.ensures.unchanged) (same_answers (at_once (TellsLine p.ask p.set.tables) IsText))
