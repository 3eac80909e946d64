use Rattle.std.proofs.Common.{refl}
use Rattle.answer_parts.specs.Asked.{reply_of}
use Rattle.answer_parts.specs.Lines.{refused_fen}
use Rattle.answer_parts.specs.Reply.{ForNone, IsText, refusal_reply}
use Rattle.judge_core.specs.declared.ask.Ask.TheVariants.{Strict}
use Rattle.table_folder.specs.Settled.{IsWithMoves}
use Rattle.table_commands.specs.FolderAnswers.{IsSpelledBy}
use Rattle.table_commands.specs.Root.{TellsLine, reply_told, table_refused}
use Rattle.table_commands.proofs.FolderLineLaws.{line_by_none}
use Rattle.table_commands.proofs.root.FolderRanker.answer.Goals as goal

pub returns-in-Err-clause-told : goal.returns-in-Err-clause-told
returns-in-Err-clause-told g c =
    let on = c.args.self.now.folder.on in
    let o = g.S.System.outside on.disk.system.now in
    let reply = refusal_reply (refused_fen c.in-Err.fault) in
    line_by_none o.disk on.folder IsSpelledBy IsWithMoves (TellsLine Strict) table_refused IsText c.args.self.now.folder.tables c.args.text.now o _ (reply_told reply) (λ tables. (reply, ForNone c.in-Err.fault c.in-Err.ensures.err refl, refl))

pub returns-in-Ok-clause-told : goal.returns-in-Ok-clause-told
returns-in-Ok-clause-told g c = c.answer_at.ensures.told

pub returns-in-Ok-clause-room : goal.returns-in-Ok-clause-room
returns-in-Ok-clause-room g c = c.answer_at.ensures.room
