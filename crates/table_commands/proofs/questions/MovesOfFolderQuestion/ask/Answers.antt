use Rattle.answer_parts.specs.Asked.{reply_of}
use Rattle.judge_core.specs.declared.ask.Ask.TheVariants.{Strict}
use Rattle.table_commands.specs.Root.{IsRootReply}
use Rattle.table_folder.specs.Settled.{IsWithMoves}
use Rattle.table_commands.proofs.FolderReadLaws.{found_none, found_then, no_room, no_room_then}
use Rattle.table_commands.proofs.questions.MovesOfFolderQuestion.ask.Goals as goal

pub returns-in-Ok-clause-made : goal.returns-in-Ok-clause-made
returns-in-Ok-clause-made g c =
    let settled = rw c.in-Ok-Ok.field-0-is at c.in-Ok-Ok.ensures.settled in
    let made = rw c.in-Ok-Ok.field-0-is at c.in-Ok-Ok.ensures.made in
    found_then (g.F.TableFiles.facts c.args.folder.now.disk) c.args.folder.now.folder (IsWithMoves c.args.self.now.position.now) (λ tables a. IsRootReply Strict tables c.args.self.now.position.now (reply_of a)) c.args.set.now.tables c.settle_moves.new.set.tables c.told_by.new.set.tables c.in-Ok.answer _ _ c.told_by.ensures.unchanged c.settle_moves.ensures.opened c.settle_moves.ensures.only settled c.in-Ok.ensures.told made

pub returns-in-Err-told_by-clause-made : goal.returns-in-Err-told_by-clause-made
returns-in-Err-told_by-clause-made g c =
    let made = rw c.in-Ok-Ok.field-0-is at c.in-Ok-Ok.ensures.made in
    no_room_then (g.F.TableFiles.facts c.args.folder.now.disk) c.args.folder.now.folder (IsWithMoves c.args.self.now.position.now) (λ tables a. IsRootReply Strict tables c.args.self.now.position.now (reply_of a)) c.args.set.now.tables c.settle_moves.new.set.tables c.told_by.new.set.tables c.in-Err-told_by.fault _ _ c.told_by.ensures.unchanged c.settle_moves.ensures.only made

pub returns-in-Ok-Err-clause-made : goal.returns-in-Ok-Err-clause-made
returns-in-Ok-Err-clause-made g c =
    let refused = rw c.in-Ok-Err.field-0-is at c.in-Ok-Err.ensures.refused in
    let made = rw c.in-Ok-Err.field-0-is at c.in-Ok-Err.ensures.made in
    found_none (g.F.TableFiles.facts c.args.folder.now.disk) c.args.folder.now.folder (IsWithMoves c.args.self.now.position.now) (λ tables a. IsRootReply Strict tables c.args.self.now.position.now (reply_of a)) c.args.set.now.tables c.settle_moves.new.set.tables c.in-Ok-Err.refusal _ _ c.settle_moves.ensures.only refused made

pub returns-in-Err-clause-made : goal.returns-in-Err-clause-made
returns-in-Err-clause-made g c = no_room (g.F.TableFiles.facts c.args.folder.now.disk) c.args.folder.now.folder (IsWithMoves c.args.self.now.position.now) (λ tables a. IsRootReply Strict tables c.args.self.now.position.now (reply_of a)) c.args.set.now.tables c.settle_moves.new.set.tables c.in-Err.fault _ _ c.settle_moves.ensures.only c.in-Err.ensures.made
